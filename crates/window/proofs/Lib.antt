pub mod Flags
pub mod Bytes
pub mod Shown
pub mod Answered
