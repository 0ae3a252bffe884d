pub mod Surveys
pub mod Regions
