pub mod Chain
pub mod Holding
pub mod Giving
pub mod Leaving
pub mod Gives
