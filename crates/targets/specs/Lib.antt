pub mod Passing
pub mod Targets
