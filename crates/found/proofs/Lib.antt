pub mod FirstHeldHolds
