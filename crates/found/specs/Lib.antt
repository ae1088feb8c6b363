-- What is asked of the call that finds the first command after which a right is held (FirstHeld), and its proof (FirstHeldHolds, with Searched); worked rows (Rows).
pub mod FirstHeld
pub mod Searched
pub mod Rows
