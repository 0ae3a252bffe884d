pub mod Touching
pub mod Touched
pub mod Touches
