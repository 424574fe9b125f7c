pub mod AllAccepted
pub mod Beginnings
pub mod HomeRuns
pub mod RunSteps
pub mod StandingRuns
pub mod WholeRuns
