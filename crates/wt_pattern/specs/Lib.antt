-- The shapes that a pattern may have, and the first fault of another.
pub mod Shape
-- Valid patterns over a list of tiles.
pub mod Patterns
-- Windows round pairs of tiles.
pub mod Windows
-- The first cell of a pattern that is no tile, and its first neighbours that don't match, in reading order: the bottom
-- row first, and in a row from left to right.
pub mod Validity
-- Scaffolding: what is found row by row: the colours along a line of cells, and the first fault of a row.
pub mod Rows
-- Periods of rectangles, and the first cell that differs from the one to which a vector takes it.
pub mod Periods
-- Lists of tiles as text: a row of four names for each tile.
pub mod TileRows
-- Scaffolding: rows that are read one after the other, with the names that were seen before.
pub mod Numbered
-- Patterns as text: a row of numbers in each line, the top row first.
pub mod PatternRows
-- Scaffolding: the bytes of a tile's row.
pub mod Writing
-- When a list of tiles has a text.
pub mod SetTexts
-- Drawings of patterns: rows of numbers, or a box for each cell.
pub mod Drawings
-- What text a tile set and a pattern have.
pub mod Texts
-- Lists of tiles that are sets but for two faults.
pub mod Plain
