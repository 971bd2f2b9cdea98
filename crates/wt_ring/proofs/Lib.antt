pub mod Ring
pub mod Integers
