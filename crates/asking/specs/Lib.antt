pub mod Input
pub mod Stands
