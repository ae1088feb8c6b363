-- `plains::part_wrong` meets its contract.
use Rattle.std.proofs.Common.{arith, ℕ, ◌≡◌, ◌≤◌, ◌/◌, ◌∙◌, sym, ap, subst, length, get_or, replicate}
use Rattle.std.proofs.lemmas.List.{length-replicate}
use Rattle.lanes.specs.Lanes.{Seen}
use Rattle.columns.specs.Cells.{lanes_of}
use Rattle.plains.specs.Checks.{plain_wrong, wrong_of}
use Rattle.plains.specs.Parts.{cells_back, cells_few, part_wrong}
use Rattle.plains.proofs.part_wrong.Goals as goal
use Rattle.plains.proofs.part_wrong.Goals.{After-LANES}

-- the cells of the part
cells : (g : _) (c : After-LANES g) → g.row.PART / c.LANES.result ≡ g.row.PART / g.W.Width.LANES
cells g c = ap (λ (q : ℕ). g.row.PART / q) c.LANES.ensures

pub cells_wrong-requires : goal.cells_wrong-requires
cells_wrong-requires g c =
    let w = g.W.Width.one_or_two in
    let e = cells g (goal.at.cells_wrong-requires g c).After-LANES in (
      omega (arith, e, cells_few w g.row.PART, c.requires.few),
      subst (λ (k : ℕ). lanes_of g.W.Width.LANES k ≤ length c.merge.new.seen) (sym e) (omega (arith, cells_back w g.row.PART, c.merge.ensures.size, length-replicate {A = ℕ} g.row.PART 0)),
      omega (arith, e, c.requires.left),
    )

pub returns : goal.returns
returns g c =
    let w = g.W.Width.one_or_two in
    let m = c.args.cells.now.lanes in
    c.cells_wrong.ensures
    ∙ ap (wrong_of (plain_wrong g.W.Width.LANES (λ j. get_or c.merge.new.seen j 0)) c.args.from) (cells g (goal.at.returns g c).After-LANES)
    ∙ part_wrong w m.bytes.now m.matrix c.merge.new.seen c.args.a c.args.from _ g.row.PART (length (replicate {A = ℕ} g.row.PART 0))
    (subst (λ (i : ℕ). Seen m.bytes.now m.matrix i g.row.PART (length (replicate {A = ℕ} g.row.PART 0)) c.merge.new.seen) c.lanes_of.ensures c.merge.ensures) (cells_back w g.row.PART)
