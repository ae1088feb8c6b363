pub mod Needs
pub mod Reads
pub mod Walks
