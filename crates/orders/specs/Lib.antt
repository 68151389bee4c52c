-- Orders of keys. Assumes nothing.
pub mod Pairs
