pub mod Contents
pub mod Tiles
pub mod Same
pub mod Bodied
