pub mod Touches
pub mod Spans
