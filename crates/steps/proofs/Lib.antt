-- The laws that belong to no one function. Assumes nothing.
pub mod Stepping
pub mod Judging
