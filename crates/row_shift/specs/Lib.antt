pub mod Shifts
pub mod Stacks
pub mod Laws
