-- The definitions that the contracts cite.
pub mod Stages
pub mod Whole
