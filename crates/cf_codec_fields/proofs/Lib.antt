pub mod Exact
pub mod FieldsExact
pub mod Keys
pub mod Loop
