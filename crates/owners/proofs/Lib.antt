pub mod Climb
pub mod Walk
pub mod Rooted
pub mod Test
pub mod Read
