-- The safety question is decided by a characterisation, and the list that leaks is written by it.
pub mod Sought
pub mod Lists
pub mod Above
pub mod Decides
