pub mod Answered
pub mod Rows
pub mod Ready
pub mod Outcomes
pub mod Accepting
pub mod Allowed
pub mod WithoutBasic
