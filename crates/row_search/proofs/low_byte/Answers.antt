-- `row_search::low_byte` meets its contract: the cell stands within the record.
use native.Mathlib.Omega.{arith}
use Rattle.codec.proofs.ShapeRight.{width_some}
use Rattle.cells.specs.Station.{right_shape}
use Rattle.cells.specs.Places.{place_below}
use Rattle.row_search.proofs.low_byte.Goals as goal

pub place-requires : goal.place-requires
place-requires c = let q = c.requires in (right_shape q.station, q.row, q.column)

pub overflow_sub-result : goal.overflow_sub-result
overflow_sub-result c = width_some c.args.f (right_shape c.requires.station)

pub overflow_add-result : goal.overflow_add-result
overflow_add-result c =
    let a = c.args in
    let q = c.requires in
    omega (arith, c.place.ensures, place_below a.b.now a.f q.station a.r a.c q.row q.column)

pub bounds-b-place : goal.bounds-b-place
bounds-b-place c =
    let a = c.args in
    let q = c.requires in
    omega (arith, c.place.ensures, width_some a.f (right_shape q.station), place_below a.b.now a.f q.station a.r a.c q.row q.column)
