-- The three demands, as theorems about the answers and the bytes of the public calls, the sheet of the thirteen commands, deletes, what an owner holds,
-- the change of the limits, and the two conversions.
pub mod Row
pub mod Sheet
pub mod First
pub mod FirstLaws
pub mod Printed
pub mod InTurn
pub mod Records
pub mod Shortened
pub mod Demand1
pub mod Demand2
pub mod Demand3
pub mod Deletes
pub mod OwnersRead
pub mod Limits
pub mod Conversions
