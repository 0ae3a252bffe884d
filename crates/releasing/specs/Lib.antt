pub mod Cuts
pub mod Models
