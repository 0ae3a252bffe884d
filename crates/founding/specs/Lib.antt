pub mod Chain
pub mod Founding
pub mod Laws
