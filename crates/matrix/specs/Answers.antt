-- The answers of the calls (Manual 7.3). In code each is a Result, whose error names the refusal; the definitions have its number.
use Rattle.std.specs.Prelude.{ℕ}

-- to a command: accepted with the links of the walk, or refused with the number and the links
pub data Answer : Type 0 where
  Accepted : ℕ → Answer
  Refused : ℕ → ℕ → Answer

-- to whether a right is held
pub data Holding : Type 0 where
  Yes : Holding
  No : Holding
  Refused : ℕ → Holding

-- to a list run: the number of commands accepted, and the refusal that ended it, 0 if none
pub record Outcome : Type 0 where
  pub accepted : ℕ
  pub refusal : ℕ
