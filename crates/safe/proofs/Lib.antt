pub mod Impossible
pub mod Trusted
