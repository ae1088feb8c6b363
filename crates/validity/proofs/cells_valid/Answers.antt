-- `validity::cells_valid` meets its contract. The tests, one after the other, are those of the whole matrix.
use Rattle.std.proofs.Common.{arith, ◌∙◌, sym}
use Rattle.cells.specs.Station.{right_shape}
use Rattle.validity.specs.Header.{lanes_celled}
use Rattle.validity.specs.Whole.{subjects_wrong, plain_wrong, table_inside, owners_left}
use Rattle.validity.proofs.cells_valid.Goals as goal

pub invariant_of-cells : goal.invariant_of-cells
invariant_of-cells g c =
    let s = c.requires.scanned in
    record { celled = lanes_celled c.args.f c.args.lanes.matrix g.W.Width.LANES (right_shape s.station) s.lanes s.cells }

pub returns-then-not-subjects : goal.returns-then-not-subjects
returns-then-not-subjects g c = subjects_wrong _ _ _ _ _ _ _ c.requires.scanned (sym c.subjects.ensures ∙ c.if-not-subjects.true)

pub returns-then-not-plains : goal.returns-then-not-plains
returns-then-not-plains g c =
    plain_wrong _ _ _ _ _ _ _ c.requires.scanned (sym c.subjects.ensures ∙ c.if-not-subjects.false) (sym c.plains.ensures ∙ c.if-not-plains.true)

pub rooted-requires-clause-inside : goal.rooted-requires-clause-inside
rooted-requires-clause-inside g c =
    table_inside _ _ _ _ _ _ _ c.requires.scanned _ (sym c.subjects.ensures ∙ c.if-not-subjects.false) (sym c.plains.ensures ∙ c.if-not-plains.false)
    (c.owners.ensures.size ∙ c.requires.room) (λ s l. c.owners.ensures.below s (omega (arith, c.requires.room)))

pub returns : goal.returns
returns g c =
    owners_left _ _ _ _ _ _ _ c.requires.scanned _ (sym c.subjects.ensures ∙ c.if-not-subjects.false) (sym c.plains.ensures ∙ c.if-not-plains.false)
    (c.owners.ensures.size ∙ c.requires.room) (λ s l. c.owners.ensures.below s (omega (arith, c.requires.room))) _ c.rooted.ensures
