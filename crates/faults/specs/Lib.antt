pub mod Reports
pub mod Results
pub mod Texts
