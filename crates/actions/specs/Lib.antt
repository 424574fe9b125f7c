pub mod Actions
pub mod Answers
pub mod Flips
pub mod Limits
pub mod StepCounts
