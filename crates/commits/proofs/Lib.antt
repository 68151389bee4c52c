-- The laws that belong to no one function. Assumes nothing.
pub mod Parts
pub mod Blocks
