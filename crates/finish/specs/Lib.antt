pub mod Reaches
pub mod States
pub mod Finish
pub mod Lists
