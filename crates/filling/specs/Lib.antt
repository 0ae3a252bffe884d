pub mod Partial
pub mod Stands
pub mod Laws
pub mod Order
pub mod Filling
pub mod Honest
