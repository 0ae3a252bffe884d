pub mod Session
pub mod Promise
pub mod Maps
