pub mod Station
pub mod Places
