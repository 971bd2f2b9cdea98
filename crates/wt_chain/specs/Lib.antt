-- What the two versions of certificates allow.
pub mod Versions
-- The tile sets between steps.
pub mod Sets
-- How large the images of tiles grow in a loop.
pub mod Growth
-- Scaffolding: tables that say for each tile whether its image is at least two long.
pub mod Tables
-- The first failing condition of a chain.
pub mod Faults
-- Good chains, as a record of what holds, and chains that are still open.
pub mod Chains
-- Good chains, as a record of what holds.
pub mod Good
-- What a loop makes of a rectangle over its first set.
pub mod Turns
-- Looped chains.
pub mod Looped
-- Chains within the limits of a certificate's text.
pub mod Limits
