-- The laws that belong to no one function. Assumes nothing.
pub mod Labels
