-- The definitions, in the order to read them. A reader who checks these against docs/MANUAL.md has checked what every promise says;
-- its section 12 has the notation and says which rule is where.
pub mod Bounded
pub mod Names
pub mod Answers
pub mod Numbers
pub mod Refusals
pub mod Rights
pub mod State
pub mod Owners
pub mod Valid
pub mod Commands
pub mod Tests
pub mod Changes
pub mod Touched
pub mod Step
pub mod Bytes
pub mod Shape
pub mod Reading
pub mod Shaped
pub mod Record
pub mod CommandList
pub mod Calls
pub mod Converting
pub mod FirstHeld
