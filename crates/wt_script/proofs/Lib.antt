pub mod Takes
pub mod Pieces
pub mod Raws
pub mod Axes
pub mod Follow
pub mod Colons
pub mod Bound
