-- The proofs of the demands, one idea a file.
pub mod Parts
pub mod Cut
pub mod Agree
pub mod Lent
pub mod Step
pub mod Run
pub mod Rooms
pub mod Next
pub mod Byte
pub mod Filled
pub mod Maps
