pub mod Alone
pub mod Refuses
