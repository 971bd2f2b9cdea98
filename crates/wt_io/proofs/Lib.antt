pub mod Cuts
pub mod Moved
pub mod Spaces
pub mod Values
pub mod Found
