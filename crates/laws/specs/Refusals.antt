-- The numbers of refusals, of which none is 0, and of the answers in code.
use Rattle.std.specs.Prelude.{ℕ, ◌≡◌, refl, Result, Ok, Err}
use Rattle.std.proofs.Common.{arith}
use Rattle.matrix.specs.declared.Refusal.{Refusal}
use Rattle.matrix.specs.declared.Refused.{Refused}
use Rattle.matrix.specs.Numbers.{command_numbers, run_numbers}
use Rattle.matrix.specs.Refusals.{refusal_number, answer_of, outcome_of, numbers_of}

pub some_number : (r : Refusal) → refusal_number r ≡ 0 → ⊥
some_number Refusal.RecordShort h = omega arith
some_number Refusal.Version h = omega arith
some_number Refusal.Counts h = omega arith
some_number Refusal.RecordLength h = omega arith
some_number Refusal.NotValid h = omega arith
some_number Refusal.Code h = omega arith
some_number Refusal.Bounds h = omega arith
some_number Refusal.InitiatorAbsent h = omega arith
some_number Refusal.WrongKind h = omega arith
some_number Refusal.NameAbsent h = omega arith
some_number Refusal.NameExists h = omega arith
some_number Refusal.RightLacking h = omega arith
some_number Refusal.WalkMeets h = omega arith
some_number Refusal.OtherController h = omega arith
some_number Refusal.BufferShort h = omega arith
some_number Refusal.ListForm h = omega arith
some_number Refusal.WindowNumber h = omega arith
some_number Refusal.HighRight h = omega arith
some_number Refusal.NotSet h = omega arith

-- an answer in code has the numbers of the answer that it is
pub command_numbers_of : (r : Result ℕ Refused) → numbers_of r ≡ command_numbers (answer_of r)
command_numbers_of (Ok links) = refl
command_numbers_of (Err e) = refl

pub run_numbers_of : (r : Result ℕ Refused) → numbers_of r ≡ run_numbers (outcome_of r)
run_numbers_of (Ok accepted) = refl
run_numbers_of (Err e) = refl
