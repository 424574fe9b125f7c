pub mod ActionsBack
pub mod FlipsBack
