pub mod Answers
pub mod Boards
pub mod Laws
pub mod Reading
pub mod Refusals
pub mod Steps
