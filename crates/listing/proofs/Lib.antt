pub mod Searching
pub mod Counting
pub mod Telling
pub mod Filling
pub mod Called
