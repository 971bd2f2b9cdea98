-- Scaffolding: lists put together number by number.
pub mod Gather
-- Trees that are collected, and the count of their nodes.
pub mod Forests
-- Classes of markers.
pub mod Classes
-- The images that markers demand.
pub mod Demanded
-- Coarse tiles: what each image shows on its four edges, numbered by first coming.
pub mod Coarse
-- Steps derived from tables of dominoes.
pub mod Derived
