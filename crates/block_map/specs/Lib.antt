pub mod Blocks
pub mod Maps
pub mod Progress
pub mod Writes
pub mod Laws
pub mod Undone
pub mod Axis
pub mod Block
