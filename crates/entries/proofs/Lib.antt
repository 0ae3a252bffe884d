pub mod Mappable
pub mod Bounds
pub mod Mapping
