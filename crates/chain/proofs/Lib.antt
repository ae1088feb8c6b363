pub mod Rising
pub mod Destroyed
