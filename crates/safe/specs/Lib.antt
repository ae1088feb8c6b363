-- The safe half of the safety theorem. The definitions in its statements:
pub mod Possible
pub mod Conditions
-- One induction over lists, and the three reasons why a right is safe.
pub mod Runs
pub mod Nobody
pub mod Impossible
pub mod Gained
pub mod Lasts
pub mod Guarded
pub mod Trusted
