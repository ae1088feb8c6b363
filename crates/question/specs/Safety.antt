-- The answer to a safety question (Manual 8.4).
use Rattle.std.specs.Prelude.{ℕ, Option, Some, None, Result, Ok, Err}
use Rattle.matrix.specs.declared.Refusal.{Refusal}
use Rattle.matrix.specs.Refusals.{refusal_number}

-- safe, or leaks by so many commands, or refused by a number
pub data Safety : Type 0 where
  Safe : Safety
  Leaks : ℕ → Safety
  Refused : ℕ → Safety

-- In code the question is decided by the commands of a list that leaks, if there is one.
abbrev pub decided_of : Option ℕ → Safety
decided_of None = Safety.Safe
decided_of (Some commands) = Safety.Leaks commands

abbrev pub safety_of : Result (Option ℕ) Refusal → Safety
safety_of (Ok found) = decided_of found
safety_of (Err r) = Safety.Refused (refusal_number r)
