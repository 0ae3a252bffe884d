pub mod Rows
pub mod Walking
pub mod Laws
pub mod Regions
