-- `plains::one_part` meets its contract.
use Rattle.std.proofs.Common.{arith, ℕ, ◌/◌, ◌≡◌, ◌∙◌, ap, eqb}
use Rattle.lanes.specs.Lanes.{seen_at}
use Rattle.plains.specs.Parts.{at_once, once_fits, once_before, once_in, once_tested}
use Rattle.plains.proofs.one_part.Goals as goal
use Rattle.plains.proofs.one_part.Goals.{After-LANES}

-- the columns of the part
cells : (g : _) (c : After-LANES g) → at_once / c.LANES.result ≡ at_once / g.W.Width.LANES
cells g c = ap (λ (q : ℕ). at_once / q) c.LANES.ensures

pub overflow_sub-a : goal.overflow_sub-a
overflow_sub-a g c =
    let a = c.args.cells.now in
    once_fits g.W.Width.one_or_two a.subjects a.plain a.lanes.matrix a.columned c.requires.0 c.requires.1 _ (cells g (goal.at.overflow_sub-a g c).After-LANES)

pub overflow_sub-n : goal.overflow_sub-n
overflow_sub-n g c =
    let a = c.args.cells.now in
    omega (arith, once_before g.W.Width.one_or_two a.subjects a.plain a.lanes.matrix a.columned c.requires.0 c.requires.1 _ (cells g (goal.at.overflow_sub-n g c).After-LANES))

pub part_wrong-requires : goal.part_wrong-requires
part_wrong-requires g c =
    let a = c.args.cells.now in
    once_in g.W.Width.one_or_two a.subjects a.plain a.lanes.matrix a.columned c.requires.0 c.requires.1 _ (cells g (goal.at.part_wrong-requires g c).After-LANES)

pub returns : goal.returns
returns g c =
    let a = c.args.cells.now in
    ap (λ (v : ℕ). eqb v 0) c.part_wrong.ensures
    ∙ once_tested g.W.Width.one_or_two a.subjects a.plain a.lanes.matrix a.columned c.requires.0 c.requires.1 _ (cells g (goal.at.returns g c).After-LANES)
    (seen_at a.lanes.bytes.now a.lanes.matrix)
