-- `cells::cell` meets its contract: the bytes at the cell's place are the cell.
use Rattle.std.proofs.Common.{ℕ, arith, ◌∙◌, ap}
use Rattle.matrix.specs.Bytes.{number_at}
use Rattle.cells.specs.Station.{right_shape}
use Rattle.cells.specs.Places.{place_below, cell_read, not_two}
use Rattle.cells.proofs.cell.Goals as goal

pub place-at-requires : goal.place-at-requires
place-at-requires c = let q = c.requires in (right_shape q.station, q.row, q.column)

pub four-requires : goal.four-requires
four-requires c =
    let a = c.args in
    let q = c.requires in
    omega (arith, place_below a.b.now a.f q.station a.r a.c q.row q.column, not_two q.station c.if-f-eq2.false, c.place-at.ensures)

pub returns-then-f-eq2 : goal.returns-then-f-eq2
returns-then-f-eq2 c =
    let a = c.args in
    c.two.ensures ∙ ap (λ (i : ℕ). number_at a.b.now i 2) c.place-at.ensures ∙ cell_read _ a.f c.requires.station a.r a.c c.if-f-eq2.true

pub returns-else-f-eq2 : goal.returns-else-f-eq2
returns-else-f-eq2 c =
    let a = c.args in
    let s = c.requires.station in
    c.four.ensures ∙ ap (λ (i : ℕ). number_at a.b.now i 4) c.place-at.ensures ∙ cell_read _ a.f s a.r a.c (not_two s c.if-f-eq2.false)
