pub mod Bits
pub mod BitBytes
pub mod Cells
pub mod Update
pub mod ShapeRight
pub mod Written
pub mod RoundTrip
pub mod InVersion
