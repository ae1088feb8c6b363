-- A list that leaks: what holds of the list that is written (Manual 8.4).
use Rattle.std.specs.Prelude.{ℕ, ◌+◌, ◌≤◌, ◌≡◌, Bool, true, false, List, [], ◌∷◌, length}
use Rattle.matrix.specs.declared.Name.{Name}
use Rattle.matrix.specs.declared.Right.{Right}
use Rattle.matrix.specs.declared.Fields.{Fields}
use Rattle.matrix.specs.declared.Shape.{Shape}
use Rattle.matrix.specs.State.{State, held}
use Rattle.matrix.specs.Calls.{run_from}

-- no initiator is trusted
abbrev pub Untrusted : (ℕ → Bool) → List Fields → Type 0
Untrusted trusted [] = Unit
Untrusted trusted (c ∷ cs) = (trusted c.i ≡ false) × Untrusted trusted cs

-- Every command is accepted in turn from the state S of a record of shape f, whose bounds on names hold (refusal 7), no initiator
-- is trusted, the right is held after the list, and there are at most n + 2 commands. A right held at the start leaks by no commands.
pub record LeaksBy (f : Shape) (S : State) (trusted : ℕ → Bool) (s : ℕ) (o : Name) (x : Right) (cs : List Fields) : Type 0 where
  pub begun : Untrusted trusted cs
  pub accepted : (run_from 0 f S cs).refusal ≡ 0
  pub whole : (run_from 0 f S cs).accepted ≡ length cs
  pub reached : held (run_from 0 f S cs).state x s o ≡ true
  pub few : length cs ≤ f.n + 2
