pub mod Transferred
pub mod Subjects
pub mod Keeps
