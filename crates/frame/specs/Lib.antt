pub mod Conditions
pub mod Untouched
pub mod Stays
pub mod Top
pub mod Answers
pub mod StationBytes
pub mod Stations
