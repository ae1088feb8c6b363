-- The first part of a leaking list: the way up to the first untrusted subject above a name, and the trusted subjects on it destroyed.
pub mod Distinct
pub mod Chain
pub mod Rising
pub mod Destroyed
