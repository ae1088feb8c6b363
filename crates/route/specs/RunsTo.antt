-- A list of commands that are all accepted in turn.
use Rattle.std.specs.Prelude.{◌≡◌, List, [], ◌∷◌}
use Rattle.matrix.specs.declared.Fields.{Fields}
use Rattle.matrix.specs.declared.Shape.{Shape}
use Rattle.matrix.specs.State.{State}
use Rattle.matrix.specs.Calls.{refusal_on, next_on}

-- the command is accepted on S, and leaves the state T
pub record Accepts (f : Shape) (S : State) (c : Fields) (T : State) : Type 0 where
  pub accepted : refusal_on f S c ≡ 0
  pub leaves : next_on f S c ≡ T

pub data RunsTo (f : Shape) : State → List Fields → State → Type 0 where
  done : {S : State} → RunsTo f S [] S
  step : {S T R : State} {c : Fields} {cs : List Fields} → Accepts f S c T → RunsTo f T cs R → RunsTo f S (c ∷ cs) R
