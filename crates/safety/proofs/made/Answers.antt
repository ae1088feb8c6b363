-- `safety::made` meets its contract.
use mathlib.Core.Path.{refl}
use Rattle.states.specs.Reads.{top_is}
use Rattle.row_search.specs.SomeBelow.{some_was, none_was}
use Rattle.safety.specs.Steps.{asks_at, told_at, told_none, made_by, made_none}
use Rattle.safety.proofs.made.Goals as goal

pub returns-in_err-v : goal.returns-in_err-v
returns-in_err-v c = rw c.from_residual.ensures (told_at (made_none _ _ (top_is _ _ c.requires.bit.station) refl (none_was c.in_err-v.ensures)) (told_none _ _ _ _ _))

pub by_creation-requires : goal.by_creation-requires
by_creation-requires c =
    let v = some_was c.in_ok-v.ensures in
    (asks_at (made_by _ _ (top_is _ _ c.requires.bit.station) v.1 v.0) c.requires, v.0)

pub returns : goal.returns
returns c =
    let v = some_was c.in_ok-v.ensures in
    told_at (made_by _ _ (top_is _ _ c.requires.bit.station) v.1 v.0) c.by_creation.ensures
