-- Owners read (Manual 1.3, 8.4): own over a name counts as holding every basic right over it, wherever a right is read as held. Commands look at bits:
-- of those the sheet tells.
use Rattle.std.specs.Prelude.{ℕ, ◌<◌, ◌≡◌, ◌||◌, List, [], length}
use Rattle.matrix.specs.declared.Name.{Name}
use Rattle.matrix.specs.declared.Form.TheVariants.{Plain, Starred}
use Rattle.matrix.specs.declared.Right.TheVariants.{Own, Control, Basic}
use Rattle.matrix.specs.Answers.{Holding}
use Rattle.matrix.specs.State.{State, held}
use Rattle.matrix.specs.Shape.{limits, shape_of, bits_of}
use Rattle.matrix.specs.Calls.{held_answer}
use Rattle.question.specs.Safety.{Safety}
use Rattle.question.specs.Asked.{LeaksRecord, Answers}
use Rattle.demands.specs.First.{NoneHolds}
use Rattle.demands.specs.Printed.{safety_conditions}

pub record OwnersRead : Type 0 where
  -- which bits make a right held, in any state
  pub own : (S : State) (s : ℕ) (o : Name) → held S Own s o ≡ S.owns s o
  pub control : (S : State) (s : ℕ) (o : Name) → held S Control s o ≡ S.controls s o
  pub plain : (S : State) (k s : ℕ) (o : Name) → held S (Basic k Plain) s o ≡ (S.owns s o || (S.basic k Plain s o || S.basic k Starred s o))
  pub starred : (S : State) (k s : ℕ) (o : Name) → held S (Basic k Starred) s o ≡ (S.owns s o || S.basic k Starred s o)
  -- whoever the held call says to own o holds by that call every other right but control, which is code 1
  pub called : (b : List ℕ) (s o right : ℕ) → held_answer limits b s o 0 ≡ Holding.Yes → 1 < right → right < bits_of (shape_of b)
      → held_answer limits b s o right ≡ Holding.Yes
  -- A question for such a right leaks then by the empty list, whoever is trusted ..
  pub at_once : (b : List ℕ) (mask s o right : ℕ) → held_answer limits b s o 0 ≡ Holding.Yes → 1 < right → LeaksRecord b mask s o right []
  -- .. so that where it is not turned down the answer is "leaks"
  pub never_safe : (b : List ℕ) (mask s o right : ℕ) (out out' : List ℕ) (r : Safety) → held_answer limits b s o 0 ≡ Holding.Yes → 1 < right
      → Answers limits b mask s o right out out' r → NoneHolds (safety_conditions b mask s o right (length out)) → (commands : ℕ) × (r ≡ Safety.Leaks commands)
