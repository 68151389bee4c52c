-- The laws that belong to no one function. Assumes nothing.
pub mod Advance
pub mod Endpoints
pub mod Expected
