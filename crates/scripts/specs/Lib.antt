pub mod Judgements
pub mod Laws
pub mod Reading
pub mod Records
pub mod Runs
pub mod States
pub mod Words
pub mod Writing
