-- The words in which the conditions on a step are said.
pub mod Words
-- The first fault of a step.
pub mod Faults
-- Scaffolding: where the sorted lists of a step stand at a pair of tiles.
pub mod Walk
-- Good steps, each as a record of what holds.
pub mod Good
-- Restrict steps: some tiles are kept, and the others stand in no core of the radius.
pub mod Restrict
-- Steps of either kind.
pub mod Links
-- Scaffolding: how a pattern is read: blocks of one or two lines, and the coarse tile of each.
pub mod Blocks
-- What desubstitution answers for a step of either kind.
pub mod Coarse
-- What a borrowed step borrows.
pub mod Views
-- What a step means for rectangles.
pub mod Meaning
-- The core of a rectangle, read along a marker step's axis.
pub mod Cores
-- What a step makes of a period: its part along the step's axis is counted in blocks.
pub mod Carried
-- Steps within the limits of a text, apart from how many nodes their trees have.
pub mod Limits
-- Scaffolding: masks of the tiles of a step.
pub mod TileMasks
-- Scaffolding: the edges that images show.
pub mod Joins
