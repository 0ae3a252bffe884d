pub mod Counting
pub mod Settling
