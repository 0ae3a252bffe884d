pub mod Laws
pub mod Maps
