pub mod Models
pub mod Fits
