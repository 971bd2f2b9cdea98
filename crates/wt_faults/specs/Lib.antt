-- Grammars of texts, line by line, with no limits on numbers and counts; and the quantities of a line, each with its
-- limit.
pub mod Grammars
-- What a fault says of a text, over its grammar: no reader is named here.
pub mod Meaning
-- The forms of lines, token by token: what the first tokens say, with their quantities, and the tokens that are left.
pub mod Forms
-- The texts of lists of tiles, and of patterns.
pub mod Rows
-- How a pattern is written with its width and height, and the input of `desub`.
pub mod Inputs
-- Trees in a line, with no limits: the tree that tokens spell, and its quantities.
pub mod Trees
-- The grammar of certificates, line by line and with no limits.
pub mod Certificates
