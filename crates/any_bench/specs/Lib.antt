pub mod Answers
pub mod AnyBenches
pub mod Calls
pub mod Scenes
