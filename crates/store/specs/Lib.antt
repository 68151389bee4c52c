-- The definitions that the contracts cite. Assumes nothing.
pub mod Slices
pub mod Calls
