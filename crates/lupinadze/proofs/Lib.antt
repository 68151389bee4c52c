-- The laws that belong to no one function. Assumes nothing.
pub mod Opening
pub mod Overlapping
