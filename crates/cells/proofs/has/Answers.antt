-- `cells::has` meets its contract.
use Rattle.std.proofs.Common.{ℕ, ◌%◌, arith, sym, ◌∙◌, ap, get_or}
use Rattle.matrix.specs.Bytes.{bit}
use Rattle.cells.specs.Station.{right_shape}
use Rattle.cells.specs.Places.{bit_below, bit_there}
use Rattle.cells.proofs.has.Goals as goal

pub bit_place-requires : goal.bit_place-requires
bit_place-requires c = let q = c.requires in (right_shape q.0.station, q.0.row, q.0.column, q.1)

pub bounds-b-bit_place : goal.bounds-b-bit_place
bounds-b-bit_place c =
    let a = c.args in
    let q = c.requires in
    omega (arith, c.bit_place.ensures, bit_below a.b.now a.f q.0.station a.r a.c a.j q.0.row q.0.column q.1)

pub returns : goal.returns
returns c =
    let a = c.args in
    c.bit_of.ensures ∙ ap (λ (i : ℕ). bit (a.j % 8) (get_or a.b.now i 0)) c.bit_place.ensures
    ∙ sym (bit_there a.b.now a.f c.requires.0.station a.r a.c a.j c.requires.1)
