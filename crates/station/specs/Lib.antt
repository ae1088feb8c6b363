pub mod Given
pub mod Done
