pub mod Progress
pub mod Rows
pub mod Same
pub mod TwoPasses
