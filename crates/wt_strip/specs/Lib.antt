-- Layers of valid rows, each upon the layer below it.
pub mod Layers
-- Lists of rows, kept one row after the other.
pub mod Listed
-- Exact layers, and the first fault of others.
pub mod Exact
-- Scaffolding: rows that are filled column by column, with the tiles that each column allows.
pub mod Walks
-- Scaffolding: rows that are appended in ascending order.
pub mod Gathered
-- Scaffolding: two lists of rows as one.
pub mod Merged
-- What is made of a tile set and a width: all layers up to an empty one, or the least pattern.
pub mod Stripped
-- Layers as text: the line with the width and the number of layers, the layers, and the line `end`.
pub mod StripText
