pub mod Decoded
pub mod Arms
pub mod Decides
