pub mod Events
pub mod Laws
pub mod Lives
pub mod Mirrors
pub mod Seen
pub mod WaysBack
