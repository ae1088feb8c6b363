pub mod Put
pub mod Stores
pub mod Commands
pub mod Laws
