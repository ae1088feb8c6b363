-- The safety question (Manual 8), defined by lists of commands alone.
pub mod Trust
pub mod Safe
pub mod Leaks
pub mod Safety
pub mod Numbers
pub mod Asked
