pub mod Feeding
mod Refusing
