-- The definitions that the contracts cite. Assumes nothing.
pub mod Buffers
pub mod Filled
