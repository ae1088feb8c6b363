pub mod Became
pub mod Passed
pub mod OwnBytes
pub mod OneBit
pub mod Steps
pub mod Loops
pub mod Inherits
