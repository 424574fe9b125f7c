pub mod Answers
pub mod Faults
pub mod Jobs
pub mod Laws
pub mod Outcomes
pub mod Steps
pub mod Texts
