pub mod Releasing
pub mod Releases
