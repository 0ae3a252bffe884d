pub mod Checked
pub mod Looking
pub mod Copies
