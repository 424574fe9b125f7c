pub mod Block
pub mod Four
pub mod Progress
pub mod Rows
pub mod Started
