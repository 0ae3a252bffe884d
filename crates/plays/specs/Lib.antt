pub mod Codes
pub mod Plays
pub mod Promise
