-- The definitions of refused commands of late, in the order to read them (Manual 9).
pub mod Entries
pub mod Window
pub mod Calls
