-- `validity::tested` meets its contract.
use Rattle.std.proofs.Common.{arith, ◌≡◌, ◌+◌, ◌/◌, ◌*◌, ◌≤◌, refl, ap, ⊎_elim}
use Rattle.codec.proofs.ShapeRight.{two_or_four}
use Rattle.cells.specs.Station.{right_shape}
use Rattle.lanes.specs.declared.Matrix.{Matrix}
use Rattle.columns.specs.Cells.{lanes_of, lanes_more, counted_most, lanes_of_width}
use Rattle.validity.specs.Whole.{scanned_by}
use Rattle.validity.proofs.tested.Goals as goal

pub count-requires : goal.count-requires
unfolding lanes_of
count-requires c =
    let f = c.args.f in
    let h = right_shape c.requires in
    let w = (lanes_of_width f (two_or_four f h)).0 in
    let place = c.lanes_in-lanes.ensures.place in
    let rows : c.lanes_in-lanes.result.matrix.rows ≡ f.n = ap (λ (m : Matrix). m.rows) place in
    let lanes : c.lanes_in-lanes.result.matrix.lanes ≡ f.width / 2 * (f.n + f.p) = ap (λ (m : Matrix). m.lanes) place in
    let more : f.width / 2 * f.n ≤ f.width / 2 * (f.n + f.p) = lanes_more w f.n (f.n + f.p) (omega arith) in
    let most : f.width / 2 * f.n ≤ 80 = counted_most w f.n h.high in
    (omega (arith, h.high), omega arith, omega arith, refl, record { sums = refl; parity = refl; owner = refl })

pub cells_valid-requires-clause-scanned : goal.cells_valid-requires-clause-scanned
cells_valid-requires-clause-scanned c =
    let e = c.lanes_in-lanes.ensures in
    scanned_by c.args.b.now _ c.args.f 1 _ _ _ _ e.bytes c.requires e.place c.if-f-eq2.true c.count.ensures

pub cells_valid-requires-else-f-eq2-clause-scanned : goal.cells_valid-requires-else-f-eq2-clause-scanned
cells_valid-requires-else-f-eq2-clause-scanned c =
    let e = c.lanes_in-lanes.ensures in
    scanned_by c.args.b.now _ c.args.f 2 _ _ _ _ e.bytes c.requires e.place
    (⊎_elim (λ t. absurd (c.if-f-eq2.false t)) (λ t. t) (two_or_four c.args.f (right_shape c.requires))) c.count.ensures
