pub mod FlipTexts
pub mod Refusals
pub mod Written
