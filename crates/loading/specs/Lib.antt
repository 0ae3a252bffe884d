pub mod Steps
pub mod Loading
