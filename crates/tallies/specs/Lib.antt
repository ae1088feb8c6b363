pub mod Blocks
pub mod Halves
