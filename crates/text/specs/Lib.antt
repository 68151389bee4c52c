-- The definitions of texts and of ranges of keys. Assumes nothing.
pub mod Ranges
pub mod Texts
