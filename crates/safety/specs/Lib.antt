pub mod Asks
pub mod Steps
pub mod Turned
pub mod Tellings
pub mod Whole
