-- `cells::store` meets its contract: the bytes at the cell's place are stored.
use Rattle.std.proofs.Common.{ℕ, arith, ◌∙◌, ap}
use Rattle.matrix.specs.Bytes.{set_number}
use Rattle.octets.proofs.Numbers.{two_cut, four_cut}
use Rattle.cells.specs.Station.{right_shape}
use Rattle.cells.specs.Places.{place_below, cell_stored, not_two}
use Rattle.cells.proofs.store.Goals as goal

pub place-at-requires : goal.place-at-requires
place-at-requires c = let q = c.requires in (right_shape q.station, q.row, q.column)

pub put_four-requires : goal.put_four-requires
put_four-requires c =
    let a = c.args in
    let q = c.requires in
    omega (arith, place_below a.b.now a.f q.station a.r a.c q.row q.column, not_two q.station c.if-f-eq2.false, c.place-at.ensures)

pub returns-then-f-eq2 : goal.returns-then-f-eq2
returns-then-f-eq2 c =
    let a = c.args in
    let b = a.b.now in
    c.put_two.ensures ∙ two_cut b c.place-at.result a.v ∙ ap (λ (i : ℕ). set_number b i 2 a.v) c.place-at.ensures
    ∙ cell_stored _ a.f c.requires.station a.r a.c a.v c.if-f-eq2.true

pub returns-else-f-eq2 : goal.returns-else-f-eq2
returns-else-f-eq2 c =
    let a = c.args in
    let b = a.b.now in
    let s = c.requires.station in
    c.put_four.ensures ∙ four_cut b c.place-at.result a.v ∙ ap (λ (i : ℕ). set_number b i 4 a.v) c.place-at.ensures
    ∙ cell_stored _ a.f s a.r a.c a.v (not_two s c.if-f-eq2.false)
