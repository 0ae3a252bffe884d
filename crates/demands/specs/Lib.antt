pub mod History
pub mod Demands
pub mod Maps
pub mod Outside
