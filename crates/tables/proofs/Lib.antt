pub mod Fills
pub mod Placing
pub mod Tables
pub mod Tested
