-- `states::owner_of` meets its contract: a guess that owns v is the owner, and else the search finds it.
use native.Mathlib.Omega.{arith}
use mathlib.Core.Path.{◌∙◌, ap}
use Rattle.cells.specs.Station.{right_shape}
use Rattle.codec.proofs.ShapeRight.{width_some}
use Rattle.row_search.specs.SomeBelow.{some_below, below_some}
use Rattle.states.specs.Reads.{owner_is, owner_guessed}
use Rattle.states.proofs.owner_of.Goals as goal

pub returns-then-has_bit : goal.returns-then-has_bit
returns-then-has_bit c =
    below_some c.if-w-f.true ∙ ap (some_below c.args.f.n) (owner_guessed _ c.requires.0 c.has_bit.ensures c.if-has_bit.true)

pub first_row-requires : goal.first_row-requires
first_row-requires c =
    let q = c.requires in
    (q.0.station, omega arith, omega (arith, width_some c.args.f (right_shape q.0.station)))

pub returns : goal.returns
returns c = owner_is c.requires.0.station c.requires.1 c.first_row.ensures
