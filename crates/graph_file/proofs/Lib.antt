pub mod BlockNames
pub mod Validity
pub mod TagLists
pub mod BlankTexts
