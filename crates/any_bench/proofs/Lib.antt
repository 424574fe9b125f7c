pub mod Skipped
pub mod Refused
