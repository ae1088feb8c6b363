-- The command call on each command of a list in turn, up to the first that is refused; and a list cut after some of its commands.
use Rattle.std.specs.Prelude.{ℕ, ◌+◌, ◌*◌, cond, List, [], ◌∷◌, eqb, take}
use Rattle.matrix.specs.declared.Fields.{Fields}
use Rattle.matrix.specs.Answers.{Outcome}
use Rattle.matrix.specs.Numbers.{command_numbers}
use Rattle.matrix.specs.Bytes.{set_number}
use Rattle.matrix.specs.Shape.{limits}
use Rattle.matrix.specs.CommandList.{record_bytes, command_place}
use Rattle.matrix.specs.Calls.{command_answer, command_bytes}

-- how many were accepted, the refusal that ended it, 0 if none, and the record after it
pub record Ended : Type 0 where
  pub outcome : Outcome
  pub bytes : List ℕ

abbrev pub ended : ℕ → ℕ → List ℕ → Ended
ended accepted refusal bytes = record { outcome = record { accepted = accepted; refusal = refusal }; bytes = bytes }

-- the number that the command call refuses with, 0 where it accepts
abbrev pub refusal_number : List ℕ → Fields → ℕ
refusal_number b c = (command_numbers (command_answer limits b c)).refusal

unfoldable pub in_turn : ℕ → List ℕ → List Fields → Ended
in_turn accepted b [] = ended accepted 0 b
in_turn accepted b (c ∷ cs) = cond (eqb (refusal_number b c) 0) (in_turn (accepted + 1) (command_bytes limits b c) cs) (ended accepted (refusal_number b c) b)

-- the list of the first m commands of l: its L says so many, and it ends after them
abbrev pub first_commands : ℕ → List ℕ → List ℕ
first_commands m l = take (command_place m) (set_number l 1 4 (record_bytes * m))
