pub mod Alike
pub mod Events
