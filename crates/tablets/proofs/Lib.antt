-- The laws that belong to no one function. Assumes nothing.
pub mod Counted
pub mod Refused
