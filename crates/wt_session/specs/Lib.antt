-- The partition that a torus and its regions make, as they are read.
pub mod Partitions
-- A pattern that a script made, and the set that it is over.
pub mod Sheets
-- The names of a script: a finite map, as the list of its entries in the order of their names' bytes.
pub mod Names
-- What a command comes to, before any limit on names and on the text.
pub mod Replies
-- Scaffolding: what the code's answers say of replies.
pub mod Said
-- Lines that a script's commands and the program's words both answer.
pub mod Texts
-- What `tiles N n` answers.
pub mod Tiles
-- What `pattern N S w h` answers.
pub mod Pattern
-- What `valid P` answers.
pub mod Valid
-- What `period P x y` answers.
pub mod Period
-- What `check N n` answers to n lines: what the program's `check` prints for them as its input.
pub mod Check
-- What `fuse S A u v` answers.
pub mod Fuse
-- What `cert C` answers.
pub mod Cert
-- What `expand N C w h` answers.
pub mod Expand
-- What `image C t` answers.
pub mod Image
-- What `desub N C k P` answers.
pub mod Desub
-- What `bound C x y` answers.
pub mod Bound
-- What `draw P numbers` and `draw P boxes` answer.
pub mod Draw
-- Values as JSON.
pub mod Json
-- Words that ask for the dominoes of a set: what they answer where the search of a window is spent.
pub mod Tables
-- dominoes S A r B: how many pairs have a window, and for each tile that begins one those that may follow it.
pub mod Dominoes
-- surround S A a b r B: the least window of two tiles, or that there is none.
pub mod Surround
-- Numbers in lines.
pub mod Rows
-- markers S A r B: the kept classes of markers, by their least tiles.
pub mod Markers
-- same S T: the least renaming of the tiles of S to those of T, or that there is none.
pub mod Same
-- Words that derive steps: what they answer where there is none, each refusal told with its level, and the sets of the
-- chain that they make.
pub mod Levels
-- search N S X W r L B: the chain that is found from a set, each step of the first kept class of markers, until a set
-- comes again.
pub mod Search
-- derive N F A W r j B: one step behind a set or an open chain, of the kept class with number j.
pub mod Derive
-- upgrade N C: the same chain in version two.
pub mod Upgrade
-- lighten N C B: the light chain of a chain, and how many nodes its trees have.
pub mod Lighten
-- primitive C: the least power of the loop in which every tile makes every tile, or that there is none.
pub mod Primitive
-- seeds C q: the fixed 2 by 2 patterns of a power of the loop, each as lower left, lower right, upper left, upper
-- right.
pub mod Seeds
-- census C k t: how often each tile stands in what k turns of the loop make of tile t.
pub mod Census
-- What `torus N GA GB Ga Gb n` answers.
pub mod Torus
-- A partition as a text of its own: a torus with its regions, and nothing behind them.
pub mod TorusTexts
-- What `code N T Gx Gy w h` answers.
pub mod Code
-- What `induce N T A` answers.
pub mod Induce
-- The meaning of a command: what it answers, and what its name is bound to.
pub mod Meaning
-- How a command ends: what it leaves of the names and of the text.
pub mod Ends
-- The meaning of a script: the commands one after the other, to the first that is refused.
pub mod Runs
-- What is known of the values that names are bound to.
pub mod Values
-- Budgets that are enough for a command.
pub mod Enough
-- What the commands of a script are about.
pub mod Subjects
