pub mod Choice
pub mod Examples
pub mod Named
pub mod Laws
