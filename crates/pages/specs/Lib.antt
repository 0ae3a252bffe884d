pub mod Serves
pub mod Serving
