pub mod History
pub mod Whole
