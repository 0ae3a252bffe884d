pub mod Distinct
pub mod Laws
pub mod Windows
