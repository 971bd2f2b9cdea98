-- What a search is asked for, and the step that it takes at a level.
pub mod Asked
-- The chain that a search finds, or why it finds none.
pub mod Found
-- Scaffolding: how far a search has come, and how far a step is lightened, as the code keeps it.
pub mod States
-- Budgets that are enough.
pub mod Enough
-- Light chains: each refuted pair has the least radius at which its window is empty, and a tree that cites what is
-- refuted at lower radii.
pub mod Light
-- How chains are lightened: what is asked and counted, in order, and how that may end.
pub mod Lightened
