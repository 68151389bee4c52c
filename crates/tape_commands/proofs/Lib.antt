-- The laws that belong to no one function. Assumes nothing.
pub mod Loop
pub mod Running
