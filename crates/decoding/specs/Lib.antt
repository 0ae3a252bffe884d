pub mod Calls
pub mod Lending
