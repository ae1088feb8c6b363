pub mod Held
pub mod Mask
pub mod MaskHolds
pub mod Asked
