pub mod Grown
pub mod Run
pub mod Good
pub mod Open
pub mod Goodness
pub mod Paths
pub mod Later
pub mod Turned
