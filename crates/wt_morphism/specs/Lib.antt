-- Images of patterns, and why a pattern has none.
pub mod Images
-- Scaffolding: the lines of an image, each with the line of the pattern that it comes from.
pub mod Strands
