pub mod Fields
pub mod FieldsOfLines
pub mod Lines
pub mod Numbers
pub mod Puts
pub mod Readers
pub mod Wholes
