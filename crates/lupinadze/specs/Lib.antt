pub mod Given
pub mod Linked
pub mod Called
pub mod Asked
