pub mod Allowed
pub mod Cells
pub mod Parts
pub mod Bits
pub mod Transferred
pub mod Subjects
