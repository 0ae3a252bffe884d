pub mod Steps
pub mod Models
