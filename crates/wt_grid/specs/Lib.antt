-- Words on axes.
pub mod Axes
-- The first answer of several.
pub mod First
-- Answers of calls that may fail: what is given, and by which fault they fail.
pub mod Answers
-- A fault that is told where a condition fails.
pub mod Unless
-- Lists in strict order, and what stands in them.
pub mod Order
-- Pairs of numbers, by the first and then by the second.
pub mod Pairs
-- Rectangles of numbers, and their lines along an axis.
pub mod Grid
-- Parts of rectangles, and what is valid, said of lines along either axis.
pub mod Parts
-- Fields of tiles as lists of lines, and their images line by line.
pub mod Lines
-- Border lines that no block holds.
pub mod Cuts
-- Images of coarse lines and of coarse rectangles, computed from the pieces of their tiles.
pub mod Images
-- Rectangles and lines that repeat themselves at a distance.
pub mod Shifts
-- How wide the image of a tile is after several steps.
pub mod Widths
-- The limits of rectangles.
pub mod Limits
-- Runs of cells in coarse rectangles, followed down to the cells that they stand for.
pub mod Traces
