pub mod Clears
pub mod Around
