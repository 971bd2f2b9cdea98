pub mod Cells
pub mod Evenness
pub mod Strands
