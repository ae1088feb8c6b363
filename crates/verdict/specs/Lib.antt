pub mod Stages
pub mod Judged
pub mod Late
