-- Scaffolding: numbers whose two parts have opposite signs, and others.
pub mod Signs
-- A box that is turned along both axes, and which points are in it.
pub mod Boxes
-- Rotations of a circle: a coordinate is moved on, and taken back by the circle's length where it comes to that.
pub mod Rotation
-- What a coordinate after some turns is: moved on by them, and less some whole lengths.
pub mod Reduced
-- The letter of a point, by the labels of the regions that hold it.
pub mod Letters
-- Codes: the letters of a point and of its turns along both axes.
pub mod Codes
-- Scaffolding: the letters of cells, by the coordinates of their columns and rows.
pub mod Cells
-- What every partition is: its torus is one, and its half-planes have directions.
pub mod Sound
