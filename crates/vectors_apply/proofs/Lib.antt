-- The laws that belong to no one function. Assumes nothing.
pub mod Openings
pub mod Slices
pub mod Applying
