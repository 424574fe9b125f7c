pub mod Runs
pub mod Scenes
pub mod Standing
pub mod Steps
