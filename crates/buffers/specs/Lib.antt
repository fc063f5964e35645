pub mod Buffer
