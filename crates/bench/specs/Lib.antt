pub mod Benches
pub mod Calls
pub mod Sessions
