pub mod Cells
pub mod Outcomes
pub mod Texts
pub mod WithoutSymmetry
