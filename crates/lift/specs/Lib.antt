pub mod Moments
pub mod Maps
pub mod Neighbours
pub mod Progress
pub mod Laws
pub mod Bits
pub mod NeighboursLemmas
