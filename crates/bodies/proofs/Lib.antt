pub mod Frames
pub mod Once
