-- Tokens that stand behind others in a line.
pub mod Behind
