pub mod Rows
pub mod Sizing
pub mod Counts
pub mod Judged
