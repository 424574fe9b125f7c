pub mod Counts
pub mod Layers
pub mod Parts
pub mod Limits
pub mod Refusals
pub mod Laws
