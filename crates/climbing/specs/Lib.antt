pub mod Climbs
pub mod Over
pub mod Needed
