-- What the searches for a way over a name answer.
use Rattle.std.specs.Prelude.{ℕ, Bool, cond, [], Option, Some, None}
use Rattle.matrix.specs.declared.Name.{Name}
use Rattle.matrix.specs.State.{State}
use Rattle.route.specs.Rise.{Risen, none}
use Rattle.chain.specs.Rising.{rise_in}
use Rattle.ways.specs.Ways.{Way, from_above, no_way}
use Rattle.rising.specs.declared.Met.{Met}

-- the way up from subject w where it owns x
abbrev pub owner_rise : State → (ℕ → Bool) → Name → ℕ → Risen
owner_rise S trusted x w = cond (S.owns w x) (rise_in S trusted S.top w []) none

-- what is met, if anything is, as a way
abbrev pub way_to : Option Met → Way
way_to (Some m) = from_above m.subject m.passed
way_to None = no_way
