pub mod Spans
pub mod Parts
pub mod Absent
pub mod PartLaws
pub mod Shifted
