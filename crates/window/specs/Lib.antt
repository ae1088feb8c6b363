-- The laws of the window, from its history to the promises of the calls. No promise rests on them.
pub mod Changed
pub mod Late
pub mod Bytes
pub mod Shown
pub mod Answered
