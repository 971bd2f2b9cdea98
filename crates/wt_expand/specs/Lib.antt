-- The levels that a pick comes down through, from the one next to the first set up to the one below tile 0.
pub mod Levels
-- All rows that tile 0 comes to below some levels, and the digits that say which of them one is.
pub mod Rows
-- Scaffolding: which rows are laid below a row.
pub mod LaidRows
-- Scaffolding: the counter goes to the next row, up or down: one bit flips, and all rows below its level are laid anew.
pub mod Advances
-- Scaffolding: how digits lie in the lent space: one block of numbers for each, that of the first level first.
pub mod Blocks
-- Scaffolding: the levels that a counter has, and its digits.
pub mod Counters
-- The rows of a pick among all rows, as a chain's loop makes them.
pub mod Picks
-- Scaffolding: tables that say for each of 256 tiles how long its image is along an axis, counted up to 65535.
pub mod Sides
-- One turn of a chain's loop on one tile, and why there is none.
pub mod Turn
-- What an expander of rows shows, and when there is none.
pub mod Expansion
-- Scaffolding: what an expander keeps.
pub mod Ready
-- Picks as whole patterns.
pub mod Wholes
-- Scaffolding: a counter in its space: a block for each level, and one for the row of tile 0.
pub mod Spaces
-- Scaffolding: what the tiles of a row stand for, kept in tables.
pub mod PieceTables
-- What a tile some levels up stands for in one row of the first level.
pub mod Words
-- Scaffolding: the words of a level's tiles, kept in tables, and how long they are.
pub mod WordTables
-- Scaffolding: a counter that keeps one cell of each of its lowest rows, and w cells of the others.
pub mod Splits
