-- The definitions that the contracts cite. Assumes nothing.
pub mod Dump
pub mod Lines
