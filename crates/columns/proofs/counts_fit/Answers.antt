-- `columns::counts_fit` meets its contract.
use Rattle.std.proofs.Common.{arith, ℕ, ◌∙◌, ap, bit_or}
use Rattle.lanes.specs.Lanes.{fault_of}
use Rattle.lanes.specs.Zeros.{merged_more, merged_done, first_fault, no_fault}
use Rattle.columns.specs.Cells.{last_counted}
use Rattle.columns.specs.Checks.{count_test}
use Rattle.columns.specs.Loops.{count_root, count_other}
use Rattle.columns.proofs.counts_fit.Goals as goal

pub bounds-tally-root : goal.bounds-tally-root
bounds-tally-root g c = last_counted g.W.Width.one_or_two 0 _ (omega arith) c.last_lane-root.ensures

pub bounds-odd-root : goal.bounds-odd-root
bounds-odd-root g c = last_counted g.W.Width.one_or_two 0 _ (omega arith) c.last_lane-root.ensures

pub loop-s-init : goal.loop-s-init
loop-s-init g c =
    c.fault-wrong.ensures ∙ first_fault (count_test g.W.Width.LANES c.args.tally.now c.args.odd.now) _ (count_root _ _ _ _ _ c.last_lane-root.ensures c.root_counts.ensures)

pub bounds-tally-j : goal.bounds-tally-j
bounds-tally-j g c = last_counted g.W.Width.one_or_two c.loop-s.s _ (omega arith) c.last_lane-j.ensures

pub bounds-odd-j : goal.bounds-odd-j
bounds-odd-j g c = last_counted g.W.Width.one_or_two c.loop-s.s _ (omega arith) c.last_lane-j.ensures

pub loop-s-preserved : goal.loop-s-preserved
loop-s-preserved g c =
    let l = c.loop-s in
    let a = c.args in
    ap (λ (x : ℕ). bit_or l.wrong x)
    (c.fault-wrong-in-loop-s.ensures ∙ ap fault_of (count_other _ _ _ _ _ _ (omega arith) c.last_lane-j.ensures c.other_counts.ensures))
    ∙ merged_more l.s (λ i. fault_of (count_test g.W.Width.LANES a.tally.now a.odd.now i)) l.wrong l.invariant

pub returns : goal.returns
returns g c = merged_done _ _ _ _ (omega arith) (omega arith) c.loop-s.invariant ∙ no_fault _ _
