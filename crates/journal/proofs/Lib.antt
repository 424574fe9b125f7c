pub mod Booking
pub mod Clocks
pub mod Entries
pub mod Kept
pub mod Standing
pub mod Used
