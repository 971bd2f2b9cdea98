-- Searches of windows in reading order, and how many trials they take.
pub mod Trials
-- Scaffolding: windows as a search of them holds them: a mask of tiles for each cell.
pub mod Frames
-- Which pairs of tiles have a window, and the least window in reading order.
pub mod Surrounded
-- Lists that begin alike, and the first of a kind as lists of numbers are ordered.
pub mod Begun
-- What searches of windows may answer.
pub mod Outcomes
