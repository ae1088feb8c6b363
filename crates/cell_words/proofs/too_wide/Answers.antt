-- `cell_words::too_wide` meets its contract.
use Rattle.std.proofs.Common.{ℕ, ◌<◌, ◌≡◌, not, arith, refl, sym, ◌∙◌, ap}
use Rattle.matrix.specs.Bounded.{all}
use Rattle.codec.proofs.ShapeRight.{two_or_four}
use Rattle.cells.specs.Station.{right_shape}
use Rattle.cell_words.specs.Places.{cells_of, cell_inside}
use Rattle.cell_words.specs.Upper.{small_at, small_next, none_wider, upper_answer}
use Rattle.cell_words.proofs.too_wide.Goals as goal
use Rattle.cell_words.proofs.too_wide.Goals.{In-loop-k}

pub returns-then-f-g : goal.returns-then-f-g
returns-then-f-g c = sym (none_wider c.args.b.now c.args.f c.args.g c.if-f-g.true)

pub cells_of-k-end-requires : goal.cells_of-k-end-requires
cells_of-k-end-requires c = right_shape c.requires.station

pub loop-k-init : goal.loop-k-init
unfolding all
loop-k-init c = refl

-- the number is that of a cell
less : (c : In-loop-k) → c.loop-k.k < cells_of c.args.f
less c = omega (arith, c.loop-k-test.true, c.cells_of-k-end.ensures)

pub place_of-requires : goal.place_of-requires
place_of-requires c = (right_shape c.requires.station, omega (arith, less (goal.at.place_of-requires c).In-loop-k))

pub word-seen-requires : goal.word-seen-requires
word-seen-requires c =
    let s = c.requires.station in
    (two_or_four c.args.f (right_shape s), (cell_inside s c.loop-k.k (less (goal.at.word-seen-requires c).In-loop-k) c.place_of.ensures).0)

pub loop-k-preserved : goal.loop-k-preserved
loop-k-preserved c =
    let l = c.loop-k in
    small_next c.args.b.now c.args.f l.seen c.word-seen.result l.k l.invariant c.place_of.ensures c.word-seen.ensures

pub returns : goal.returns
returns c =
    let l = c.loop-k in
    let end : l.k ≡ cells_of c.args.f = omega (arith, c.loop-k-test.false, c.cells_of-k-end.ensures) in
    ap not (l.invariant ∙ ap (λ (m : ℕ). all m (small_at c.args.b.now c.args.f)) end) ∙ upper_answer c.requires c.if-f-g.false
