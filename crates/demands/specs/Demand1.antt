-- Demand 1: every input is answered, or refused by exactly the number whose condition is the first to hold; a refusal changes nothing, and a
-- list run keeps what it accepted before (Manual 7). An answer is compared by its numbers: the refusal of an answer that is none is 0. The
-- record of a question is lent to be read alone, so that there is nothing to say of its bytes.
use Rattle.std.specs.Prelude.{ℕ, ◌≡◌, ◌≢◌, ◌↔◌, ◌⊎◌, true, false, List, [], ◌∷◌, length}
use Rattle.matrix.specs.declared.Fields.{Fields}
use Rattle.matrix.specs.Answers.{Answer}
use Rattle.matrix.specs.Answers.{Holding}
use Rattle.matrix.specs.Names.{name_of}
use Rattle.matrix.specs.Numbers.{held_numbers, command_numbers, run_numbers}
use Rattle.matrix.specs.State.{exists, exists_name}
use Rattle.matrix.specs.Shape.{limits, shape_of}
use Rattle.matrix.specs.Shaped.{Octets}
use Rattle.matrix.specs.Reading.{state_of}
use Rattle.matrix.specs.CommandList.{command_place, fields_at, commands_of}
use Rattle.matrix.specs.Calls.{valid_answer, held_answer, command_answer, command_bytes, run_answer, run_bytes}
use Rattle.question.specs.Safety.{Safety}
use Rattle.question.specs.Numbers.{safety_numbers}
use Rattle.question.specs.Asked.{Answers}
use Rattle.demands.specs.First.{First, NoneHolds, Numbered, Among}
use Rattle.demands.specs.Printed.{record_conditions, held_conditions, given_conditions, run_conditions, safety_conditions}
use Rattle.demands.specs.InTurn.{in_turn, first_commands}

-- subject s or the name of column o is absent
abbrev pub AbsentName : List ℕ → ℕ → ℕ → Type 0
AbsentName b s o = (exists (state_of b) s ≡ false) ⊎ (exists_name (state_of b) (name_of (shape_of b).n o) ≡ false)

-- The held question: refused by 1 to 5 or 7, and no for an absent subject or name.
pub record HeldRight (b : List ℕ) (s o right : ℕ) : Type 0 where
  pub number : Numbered (held_conditions b s o right) (held_numbers (held_answer limits b s o right)).refusal
  pub only : Among (held_numbers (held_answer limits b s o right)).refusal (0 ∷ 1 ∷ 2 ∷ 3 ∷ 4 ∷ 5 ∷ 7 ∷ [])
  pub some : held_answer limits b s o right ≢ Holding.Refused 0
  pub absent : NoneHolds (held_conditions b s o right) → AbsentName b s o → held_answer limits b s o right ≡ Holding.No

-- A command: refused by 1 to 14 or 19, and then the record is byte for byte as it was.
pub record CommandRight (b : List ℕ) (c : Fields) : Type 0 where
  pub number : Numbered (given_conditions b c) (command_numbers (command_answer limits b c)).refusal
  pub only : Among (command_numbers (command_answer limits b c)).refusal
      (0 ∷ 1 ∷ 2 ∷ 3 ∷ 4 ∷ 5 ∷ 6 ∷ 7 ∷ 8 ∷ 9 ∷ 10 ∷ 11 ∷ 12 ∷ 19 ∷ 13 ∷ 14 ∷ [])
  pub some : (links : ℕ) → command_answer limits b c ≢ Answer.Refused 0 links
  pub kept : (command_numbers (command_answer limits b c)).refusal ≢ 0 → command_bytes limits b c ≡ b

-- A list run that stopped after its first m commands: the list of these is accepted whole and leaves the same bytes, and the next command,
-- given to the command call on them, is refused by the number of the run.
pub record StoppedAfter (b l : List ℕ) (m : ℕ) : Type 0 where
  pub accepted : run_answer limits b (first_commands m l) ≡ record { accepted = m; refusal = 0 }
  pub bytes : run_bytes limits b (first_commands m l) ≡ run_bytes limits b l
  pub earned : (command_numbers (command_answer limits (run_bytes limits b l) (fields_at l (command_place m)))).refusal ≡ (run_answer limits b l).refusal
  pub first : m ≡ 0 → run_bytes limits b l ≡ b

-- nothing is accepted and nothing is changed
abbrev pub TurnedDown : List ℕ → List ℕ → ℕ → Type 0
TurnedDown b l number = (run_answer limits b l ≡ record { accepted = 0; refusal = number }) × (run_bytes limits b l ≡ b)

-- A list run: refused by 1 to 5 or 16 with nothing accepted and nothing changed. Else it is the command call on each command in turn, up to
-- the first that is refused, and its number is 0 or that command's, 6 to 14 or 19.
pub record RunRight (b l : List ℕ) : Type 0 where
  pub turned : (number : ℕ) → number ≢ 0 → First (run_conditions b l) number → TurnedDown b l number
  pub each : Octets b → NoneHolds (run_conditions b l)
      → (run_answer limits b l ≡ (in_turn 0 b (commands_of l)).outcome) × (run_bytes limits b l ≡ (in_turn 0 b (commands_of l)).bytes)
  pub by_command : NoneHolds (run_conditions b l)
      → Among (run_numbers (run_answer limits b l)).refusal (0 ∷ 6 ∷ 7 ∷ 8 ∷ 9 ∷ 10 ∷ 11 ∷ 12 ∷ 19 ∷ 13 ∷ 14 ∷ [])
  pub only : Among (run_numbers (run_answer limits b l)).refusal
      (0 ∷ 1 ∷ 2 ∷ 3 ∷ 4 ∷ 5 ∷ 6 ∷ 7 ∷ 8 ∷ 9 ∷ 10 ∷ 11 ∷ 12 ∷ 19 ∷ 13 ∷ 14 ∷ 16 ∷ [])
  pub stopped : Octets b → NoneHolds (run_conditions b l) → (run_numbers (run_answer limits b l)).refusal ≢ 0 → StoppedAfter b l (run_answer limits b l).accepted

-- The safety question: refused by 1 to 5, 7 or 15, and then the buffer is byte for byte as it was.
pub record SafetyRight (b : List ℕ) (mask s o right : ℕ) (out out' : List ℕ) (r : Safety) : Type 0 where
  pub number : Numbered (safety_conditions b mask s o right (length out)) (safety_numbers r).refusal
  pub only : Among (safety_numbers r).refusal (0 ∷ 1 ∷ 2 ∷ 3 ∷ 4 ∷ 5 ∷ 7 ∷ 15 ∷ [])
  pub some : r ≢ Safety.Refused 0
  pub kept : (safety_numbers r).refusal ≢ 0 → out' ≡ out

pub record Demand1 : Type 0 where
  -- the validity call is never refused: it says yes exactly where 1 to 5 do not hold
  pub valid : (b : List ℕ) → (valid_answer limits b ≡ true) ↔ NoneHolds (record_conditions b)
  pub held : (b : List ℕ) (s o right : ℕ) → HeldRight b s o right
  pub command : (b : List ℕ) (c : Fields) → CommandRight b c
  pub run : (b l : List ℕ) → RunRight b l
  pub safety : (b : List ℕ) (mask s o right : ℕ) (out out' : List ℕ) (r : Safety) → Answers limits b mask s o right out out' r
      → SafetyRight b mask s o right out out' r
