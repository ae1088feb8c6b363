-- A row of the sheet: exactly when a command is accepted, the state that it leaves, and the links that are answered.
use Rattle.std.specs.Prelude.{ℕ, ◌≡◌, ◌↔◌, Bool, true, List, [], ◌∷◌}
use Rattle.matrix.specs.declared.Name.{Name}
use Rattle.matrix.specs.State.{State}
use Rattle.matrix.specs.Commands.{Raw}
use Rattle.matrix.specs.Step.{refusal, links, next}

-- every condition of a list holds: their plain conjunction
abbrev pub AllHold : List Bool → Type 0
AllHold [] = Unit
AllHold (t ∷ ts) = (t ≡ true) × AllHold ts

-- the command of five fields, where o carries its kind
abbrev pub raw : ℕ → ℕ → ℕ → Name → ℕ → Raw
raw code i s o k = record { code = code; i = i; s = s; o = o; k = k }

-- The command c is accepted exactly if all the conditions hold, and then it leaves the state `after` and answers so many links. `names` is
-- whether its names are within bounds: on a record they have to be the record's, in a safety question every name is (Manual 7, 8).
pub record Row (basics : ℕ) (names : Bool) (S : State) (c : Raw) (conditions : List Bool) (after : State) (followed : ℕ) : Type 0 where
  pub accepted : (refusal basics names S c ≡ 0) ↔ AllHold conditions
  pub leaves : refusal basics names S c ≡ 0 → next basics names S c ≡ after
  pub answers : refusal basics names S c ≡ 0 → links basics names S c ≡ followed
