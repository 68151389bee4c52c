-- The laws that belong to no one function. Assumes nothing.
pub mod Asked
pub mod Overlaps
