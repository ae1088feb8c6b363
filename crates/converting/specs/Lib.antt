pub mod Needs
pub mod Header
pub mod Copying
pub mod Answers
