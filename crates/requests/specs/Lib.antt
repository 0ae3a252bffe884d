pub mod Requests
pub mod Codes
pub mod Laws
