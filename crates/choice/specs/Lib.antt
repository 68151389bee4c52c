-- The definitions that this crate adds to those of `metadata`. Assumes nothing.
pub mod Gains
