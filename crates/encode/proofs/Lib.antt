-- The laws that belong to no one function. Assumes nothing.
pub mod FieldsRead
pub mod FieldsThere
pub mod Fronts
pub mod RowsRead
pub mod RowsThere
