-- What a good step of either kind does to sizes, periods and runs of cells.
pub mod Scales
-- How large a pattern has to be so that no vector of a length is a period of it.
pub mod Sizes
-- Patterns that coarse patterns stand for, and patterns of a given size.
pub mod Existence
-- The picks of a loop: one valid pattern of each size, by name.
pub mod Pick
-- The size that a looped chain asks for a vector, and where there is none.
pub mod Vectors
-- Sizes and picks of looped chains.
pub mod Loops
-- What holds of a good chain: its steps take patterns apart in exactly one way, and where it is looped, there are valid
-- patterns of every size over its first set, and no large one has a period.
pub mod Holds
