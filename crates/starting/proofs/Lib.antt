pub mod Starting
pub mod Stands
pub mod Started
pub mod Begins
