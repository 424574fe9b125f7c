pub mod Inverses
pub mod Names
pub mod Refusals
pub mod Tables
