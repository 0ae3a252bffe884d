pub mod Models
pub mod Takes
pub mod Chains
pub mod Pool
