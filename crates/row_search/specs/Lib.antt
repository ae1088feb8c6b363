pub mod SomeBelow
pub mod Rows
pub mod Blocks
