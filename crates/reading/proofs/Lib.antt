-- The laws that belong to no one function. Assumes nothing.
pub mod Reading
pub mod Accepted
pub mod Longer
pub mod Places
