pub mod Folded
pub mod Lists
pub mod Lanes
pub mod LaneLaws
pub mod Zeros
pub mod Passing
