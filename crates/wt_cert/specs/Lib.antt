-- Trees of a certificate, written in a line.
pub mod Trees
-- The lines of a certificate, each by its form and its limits, in the grammar's order.
pub mod LineForms
-- The parts of a certificate, line by line.
pub mod Parts
-- How a chain is written: its lines, token by token, in the grammar's order.
pub mod Spelling
-- Which chains have a text: those within its limits, whose lists of tiles have their colours numbered by first coming.
pub mod Fits
-- Scaffolding: how values of the code stand for what is read.
pub mod Seen
