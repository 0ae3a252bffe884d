pub mod Encodes
