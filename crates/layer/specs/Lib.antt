pub mod Words
pub mod Steps
pub mod Packed
pub mod PutBit
pub mod Seek
pub mod Counts
