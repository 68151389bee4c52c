-- The definitions that the contracts cite. Assumes nothing.
pub mod Encode
pub mod Typed
pub mod Widths
