pub mod Fits
pub mod Models
