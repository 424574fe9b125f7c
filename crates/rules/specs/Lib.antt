pub mod Bits
pub mod Limits
pub mod Neighbourhoods
pub mod Refusals
pub mod Rules
