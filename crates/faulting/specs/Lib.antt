pub mod Writing
pub mod Resident
pub mod Written
