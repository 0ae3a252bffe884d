pub mod Session
pub mod Corners
pub mod Maps
pub mod HandBacks
