-- `plains::parts_right` meets its contract.
use Rattle.std.proofs.Common.{arith, ℕ, ◌+◌, ◌-◌, ◌/◌, ◌≤◌, ◌<◌, ◌≡◌, refl, sym, ◌∙◌, ap, subst, bit_or}
use Rattle.lanes.specs.Lists.{Part}
use Rattle.lanes.specs.Lanes.{seen_at}
use Rattle.columns.specs.Cells.{lanes_of, lanes_added, lanes_more}
use Rattle.plains.specs.Checks.{plain_test, plain_wrong, wrong_of}
use Rattle.plains.specs.Parts.{whole_cells, lanes_few, cells_fewer, Tested, tested_none, tested_all, tested_part}
use Rattle.plains.proofs.parts_right.Goals as goal
use Rattle.plains.proofs.parts_right.Goals.{After-LANES}

-- of a part's columns, those that it repeats are no more than all of it
past : {w k c a : ℕ} → Part w k c a → c < k → 1 ≤ w → c - a ≤ w
past {c = c} p l some = omega (arith, p.far c (omega arith) l)

-- a part has some columns, which are so many lanes, and no more than the row has
cells : (g : _) (c : After-LANES g) → c.lanes_for-lanes.result / c.LANES.result ≡ c.lanes_for-lanes.result / g.W.Width.LANES
cells g c = ap (λ (q : ℕ). c.lanes_for-lanes.result / q) c.LANES.ensures

step_is : (g : _) (c : After-LANES g) →
    let step = c.lanes_for-lanes.result / c.LANES.result in
    (lanes_of g.W.Width.LANES step ≡ c.lanes_for-lanes.result) × (1 ≤ step)
step_is g c =
    subst (λ (k : ℕ). (lanes_of g.W.Width.LANES k ≡ c.lanes_for-lanes.result) × (1 ≤ k)) (sym (cells g c)) (whole_cells g.W.Width.one_or_two c.lanes_for-lanes.ensures.some)

step_fits : (g : _) (c : After-LANES g) → let a = c.args.cells.now in c.lanes_for-lanes.result / c.LANES.result ≤ a.subjects + a.plain
step_fits g c =
    cells_fewer g.W.Width.one_or_two _ _ (omega (arith, (step_is g c).0, c.lanes_for-lanes.ensures.inside, c.args.cells.now.columned.width))

pub loop-c-init : goal.loop-c-init
loop-c-init g c = (omega arith, tested_none _ _ _)

pub part-a-requires : goal.part-a-requires
part-a-requires g c = step_fits g (goal.at.part-a-requires g c).After-LANES

pub known_wrong-wrong-requires : goal.known_wrong-wrong-requires
known_wrong-wrong-requires g c =
    let p = c.part-a.ensures in
    let w = g.W.Width.one_or_two in
    let h = c.args.cells.now.columned in
    let d = goal.at.known_wrong-wrong-requires g c in
    let step = c.lanes_for-lanes.result / c.LANES.result in (
      record {
        first = omega (arith, p.within, (step_is g d.After-LANES).1, h.few);
        few = lanes_few c.lanes_for-lanes.ensures.some;
        inside = omega (arith, lanes_added w c.part-a.result step, lanes_more w _ _ p.within, (step_is g d.After-LANES).0, h.width);
        left = omega (arith, cells g d.After-LANES, past p c.loop-c-test.true (step_is g d.After-LANES).1);
      },
      c.lanes_for-lanes.ensures.some,
    )

pub loop-c-preserved : goal.loop-c-preserved
loop-c-preserved g c =
    let p = c.part-a.ensures in
    let a = c.part-a.result in
    let m = c.args.cells.now.lanes in
    let n = c.args.cells.now.subjects in
    let wrong : ℕ → ℕ = wrong_of (λ i. plain_wrong g.W.Width.LANES (seen_at m.bytes.now m.matrix) (a + i)) (c.loop-c.c - a) in (
      omega (arith, c.loop-c.invariant.0),
      subst (λ (v : ℕ). Tested (plain_test g.W.Width.LANES (seen_at m.bytes.now m.matrix)) n (n + c.args.cells.now.plain) (c.loop-c.c + c.lanes_for-lanes.result / c.LANES.result) (bit_or c.loop-c.wrong v))
          (sym (c.known_wrong-wrong.ensures ∙ ap wrong (sym (cells g (goal.at.loop-c-preserved g c).After-LANES))))
          (tested_part g.W.Width.LANES _ _ _ _ _ a (c.loop-c.c - a) _ c.loop-c.invariant.1 p (omega (arith, c.loop-c.invariant.0, p.near)) (omega (arith, p.near))),
    )

pub returns : goal.returns
returns g c = tested_all _ _ _ _ _ _ refl (omega arith) c.loop-c.invariant.1
