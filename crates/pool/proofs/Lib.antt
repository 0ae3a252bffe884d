pub mod Freeing
pub mod Freed
pub mod Counting
