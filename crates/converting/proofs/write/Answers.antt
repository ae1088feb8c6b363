-- `converting::write` meets its contract.
use Rattle.std.proofs.Common.{◌<◌, ◌≡◌, arith, subst}
use Rattle.matrix.specs.Bytes.{number_at}
use Rattle.codec.proofs.ShapeRight.{two_or_four}
use Rattle.cells.specs.Station.{right_shape}
use Rattle.cell_words.specs.Places.{cells_of, cell_inside}
use Rattle.converting.specs.Needs.{Copied}
use Rattle.converting.specs.Copying.{copied_next, copied_all}
use Rattle.converting.proofs.write.Goals as goal
use Rattle.converting.proofs.write.Goals.{In-loop-k}

-- the number is that of a cell
less : (c : In-loop-k) → c.loop-k.k < cells_of c.args.f
less c = omega (arith, c.loop-k-test.true, c.cells_of-k-end.ensures)

pub cells_of-k-end-requires : goal.cells_of-k-end-requires
cells_of-k-end-requires c = right_shape c.requires.0.wanted.station

pub place_of-from-requires : goal.place_of-from-requires
place_of-from-requires c = (right_shape c.requires.0.wanted.station, omega (arith, less (goal.at.place_of-from-requires c).In-loop-k))

pub word-requires : goal.word-requires
word-requires c =
    let s = c.requires.0.wanted.station in
    (two_or_four c.args.f (right_shape s), (cell_inside s c.loop-k.k (less (goal.at.word-requires c).In-loop-k) c.place_of-from.ensures).0)

pub loop-k-preserved : goal.loop-k-preserved
loop-k-preserved c =
    let l = c.loop-k in
    let a = c.args in
    let from = c.place_of-from in
    let stored = c.put_word.ensures (number_at a.b.now from.result a.f.width) c.word.ensures in
    copied_next c.requires.0 l.k (less (goal.at.loop-k-preserved c).In-loop-k) l.invariant from.ensures c.place_of-to.ensures stored

pub returns : goal.returns
returns c =
    let end : c.loop-k.k ≡ cells_of c.args.f = omega (arith, c.loop-k-test.false, c.cells_of-k-end.ensures) in
    copied_all c.requires.0 (subst (Copied c.args.b.now c.args.g c.loop-k.out) end c.loop-k.invariant)
