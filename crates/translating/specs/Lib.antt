pub mod Ready
pub mod Translating
