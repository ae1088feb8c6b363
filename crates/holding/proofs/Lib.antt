pub mod MaskHolds
