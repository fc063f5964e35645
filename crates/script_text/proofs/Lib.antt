pub mod LineLemmas
pub mod FieldLemmas
pub mod NumberLemmas
pub mod ScriptLemmas
pub mod AskableLemmas
