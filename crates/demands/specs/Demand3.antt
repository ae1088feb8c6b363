-- Demand 3: "safe" exactly where no list of commands by untrusted subjects ever gets there; else "leaks", with a list that does (Manual 8).
use Rattle.std.specs.Prelude.{ℕ, ◌+◌, ◌≤◌, ◌≡◌, ◌≢◌, ◌↔◌, List, length, take, drop}
use Rattle.matrix.specs.Answers.{Holding}
use Rattle.matrix.specs.Shape.{limits, shape_of}
use Rattle.matrix.specs.CommandList.{commands_of}
use Rattle.matrix.specs.Calls.{held_answer, run_answer, run_bytes}
use Rattle.question.specs.Safety.{Safety}
use Rattle.question.specs.Trust.{trusted_by}
use Rattle.question.specs.Leaks.{Untrusted}
use Rattle.question.specs.Asked.{list_room, SafeRecord, Answers}
use Rattle.demands.specs.First.{NoneHolds}
use Rattle.demands.specs.Printed.{safety_conditions}

-- the list of so many commands at the buffer's start
abbrev pub list_in : ℕ → List ℕ → List ℕ
list_in commands out = take (list_room commands) out

-- What holds of the answer "leaks" by N commands: the list that was written, handed to the run on that record, is accepted whole; untrusted
-- subjects alone begin its commands; there are at most n + 2; after it the held question answers yes; and later bytes are as they were.
pub record LeaksRight (b : List ℕ) (mask s o right : ℕ) (out out' : List ℕ) (commands : ℕ) : Type 0 where
  pub run : run_answer limits b (list_in commands out') ≡ record { accepted = commands; refusal = 0 }
  pub begun : Untrusted (trusted_by mask) (commands_of (list_in commands out'))
  pub few : commands ≤ (shape_of b).n + 2
  pub held : held_answer limits (run_bytes limits b (list_in commands out')) s o right ≡ Holding.Yes
  pub later : drop (list_room commands) out' ≡ drop (list_room commands) out

-- the answer is "leaks", by a list that does
abbrev pub Leaks : List ℕ → ℕ → ℕ → ℕ → ℕ → List ℕ → List ℕ → Safety → Type 0
Leaks b mask s o right out out' r = (commands : ℕ) × (r ≡ Safety.Leaks commands) × LeaksRight b mask s o right out out' commands

-- the answer r to a question that is not turned down
pub record Decides (b : List ℕ) (mask s o right : ℕ) (out out' : List ℕ) (r : Safety) : Type 0 where
  -- safe if and only if no list gets there, and then the buffer is as it was
  pub safe : (r ≡ Safety.Safe) ↔ SafeRecord b mask s o right
  pub untouched : r ≡ Safety.Safe → out' ≡ out
  pub leaks : r ≢ Safety.Safe → Leaks b mask s o right out out' r

pub record Demand3 : Type 0 where
  pub decides : (b : List ℕ) (mask s o right : ℕ) (out out' : List ℕ) (r : Safety) → Answers limits b mask s o right out out' r
      → NoneHolds (safety_conditions b mask s o right (length out)) → Decides b mask s o right out out' r
