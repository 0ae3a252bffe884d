-- The laws of the map file, one idea a file: what a sound state is written as, and what words that keep the rules tell of.
pub mod Bodies
pub mod Contents
pub mod Rules
pub mod Back
pub mod Fine
pub mod Frames
pub mod Pages
pub mod Again
pub mod Keeps
pub mod Exact
pub mod Sounds
pub mod Length
pub mod Fullness
