-- The laws that belong to no one function. Assumes nothing.
pub mod Catalog
pub mod Gathering
pub mod Lines
pub mod Store
