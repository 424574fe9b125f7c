pub mod Drawings
pub mod Scenes
