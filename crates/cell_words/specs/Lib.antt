pub mod Wanted
pub mod Words
pub mod Places
pub mod Upper
