pub mod Effects
pub mod Homes
pub mod Ledgers
pub mod Mirrors
pub mod Refusals
