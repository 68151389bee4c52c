-- The laws that belong to no one function. Assumes nothing.
pub mod Answering
pub mod Reading
pub mod Sending
pub mod Replaying
