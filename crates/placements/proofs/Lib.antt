-- The laws that belong to no one function. Assumes nothing.
pub mod Hosting
pub mod Kept
pub mod Looked
