-- `holding::held_on` meets its contract.
use mathlib.Core.Path.{refl}
use Rattle.cells.specs.Station.{right_shape}
use Rattle.holding.specs.Asked.{held_unfit, held_fit, cell_asked}
use Rattle.holding.proofs.held_on.Goals as goal

pub question_fits-requires : goal.question_fits-requires
question_fits-requires c = right_shape c.requires

pub returns-then-not-question_fits : goal.returns-then-not-question_fits
returns-then-not-question_fits c = held_unfit _ _ _ _ _ c.requires c.question_fits.ensures c.if-not-question_fits.true

pub is_held-requires : goal.is_held-requires
is_held-requires c =
    let a = c.args in
    cell_asked _ _ a.s a.o a.right c.requires c.question_fits.ensures c.if-not-question_fits.false

pub returns : goal.returns
returns c = held_fit _ _ _ _ _ c.requires _ c.question_fits.ensures c.if-not-question_fits.false c.is_held.ensures refl
