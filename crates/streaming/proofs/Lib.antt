-- The laws that belong to no one function. Assumes nothing.
pub mod Advanced
pub mod Finishing
pub mod Opened
pub mod AfterBuffers
pub mod History
pub mod Whole
