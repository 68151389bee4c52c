-- The laws that belong to no one function. Assumes nothing.
pub mod Pieces
pub mod Chunks
pub mod Changed
pub mod Records
pub mod Put
pub mod Zeros
pub mod Empty
pub mod Once
