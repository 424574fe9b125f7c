pub mod Along
pub mod Elsewhere
pub mod LifeLaws
pub mod MirrorLaws
pub mod Pairs
pub mod Recording
pub mod WaysHome
