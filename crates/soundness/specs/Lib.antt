-- The definitions are those of `metadata`, and what is asked of a placement but for its class. Assumes nothing.
pub mod Counts
