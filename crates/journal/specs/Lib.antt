pub mod Backwards
pub mod Journals
pub mod Kept
pub mod OpenJournals
pub mod Views
