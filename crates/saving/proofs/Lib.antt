pub mod Honest
pub mod Promise
pub mod Tallying
pub mod Regions
pub mod Spaces
pub mod Whole
pub mod Called
