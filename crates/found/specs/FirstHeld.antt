-- After which command of a list a right is first held (Manual 6.3, 7.3), told by the list run and the held question. The record and the list are
-- lent to be read alone, so that there is nothing to say of their bytes; of the lent copy the contract says it (`Lent`).
use Rattle.std.specs.Prelude.{ℕ, ◌+◌, ◌≤◌, ◌<◌, ◌≡◌, ◌≢◌, ◌↔◌, List, [], ◌∷◌}
use Rattle.matrix.specs.Answers.{Holding}
use Rattle.matrix.specs.Shape.{limits}
use Rattle.matrix.specs.CommandList.{commands_in}
use Rattle.matrix.specs.Calls.{held_answer, run_answer, run_bytes}
use Rattle.matrix.specs.FirstHeld.{first_held_result}
use Rattle.demands.specs.First.{Numbered, Among}
use Rattle.demands.specs.Printed.{first_held_conditions}
use Rattle.demands.specs.InTurn.{first_commands}

-- the refusal and the value of the call
abbrev pub refusal_asked : List ℕ → List ℕ → ℕ → ℕ → ℕ → ℕ → ℕ
refusal_asked b l s o right room = (first_held_result limits b l s o right room).refusal

abbrev pub value_asked : List ℕ → List ℕ → ℕ → ℕ → ℕ → ℕ → ℕ
value_asked b l s o right room = (first_held_result limits b l s o right room).value

-- The list of the first m commands is accepted whole by the list run, and on the record that the run leaves the held question says yes.
pub record HeldAfter (b l : List ℕ) (s o right m : ℕ) : Type 0 where
  pub within : m ≤ commands_in l
  pub accepted : run_answer limits b (first_commands m l) ≡ record { accepted = m; refusal = 0 }
  pub held : held_answer limits (run_bytes limits b (first_commands m l)) s o right ≡ Holding.Yes

-- m is the least such number
abbrev pub FirstAfter : List ℕ → List ℕ → ℕ → ℕ → ℕ → ℕ → Type 0
FirstAfter b l s o right m = HeldAfter b l s o right m × ((j : ℕ) → j < m → HeldAfter b l s o right j → ⊥)

pub record FirstHeld : Type 0 where
  -- 1 to 5, then 7, then 15, then 16, each exactly where its condition is the first to hold; and then the value is 0
  pub number : (b l : List ℕ) (s o right room : ℕ) → Numbered (first_held_conditions b l s o right room) (refusal_asked b l s o right room)
  pub only : (b l : List ℕ) (s o right room : ℕ) → Among (refusal_asked b l s o right room) (0 ∷ 1 ∷ 2 ∷ 3 ∷ 4 ∷ 5 ∷ 7 ∷ 15 ∷ 16 ∷ [])
  pub refused : (b l : List ℕ) (s o right room : ℕ) → refusal_asked b l s o right room ≢ 0 → value_asked b l s o right room ≡ 0
  -- answered: m + 1 exactly where m is the first number of commands after which the right is held, 0 exactly where there is none
  pub first : (b l : List ℕ) (s o right room m : ℕ) → refusal_asked b l s o right room ≡ 0
      → (value_asked b l s o right room ≡ m + 1) ↔ FirstAfter b l s o right m
  pub none : (b l : List ℕ) (s o right room : ℕ) → refusal_asked b l s o right room ≡ 0
      → (value_asked b l s o right room ≡ 0) ↔ ((m : ℕ) → HeldAfter b l s o right m → ⊥)
