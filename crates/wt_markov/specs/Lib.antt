-- Which regions can follow each other along an axis: some point of one may be moved to a point of the other.
pub mod Follow
-- Partitions whose codes are valid patterns over a tile set.
pub mod Markov
-- Partitions whose markers are the labels beyond the window of an axis.
pub mod Window
-- Where a step takes the code of a point apart: the blocks, as points of the torus.
pub mod Agree
-- Why a partition isn't one that codes valid patterns, in the order of the causes.
pub mod Faults
-- Why the markers of a step aren't the labels beyond the window, in the order of the causes.
pub mod WindowFaults
-- The zones of an axis and the two sides of a window's edge, as the code keeps them.
pub mod Turns
-- What taking a code apart answers.
pub mod CodeDesub
-- What the laws on codes say: when a step takes the code of a point apart, and what it makes of it.
pub mod Law
