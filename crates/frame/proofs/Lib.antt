pub mod Untouched
pub mod Stays
