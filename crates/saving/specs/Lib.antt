pub mod Saved
pub mod Storing
pub mod Steps
pub mod Sizes
pub mod Asked
