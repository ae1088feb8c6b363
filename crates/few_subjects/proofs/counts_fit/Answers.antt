-- `few_subjects::counts_fit` meets its contract.
use Prim.Native.Nat.{ℕ}
use mathlib.Core.Path.{◌∙◌, ap}
use lib.Bits.{bit_or}
use Rattle.lanes.specs.Lanes.{fault_of}
use Rattle.lanes.specs.Zeros.{merged_none, merged_more, merged_done, no_fault}
use Rattle.few_subjects.specs.Counts.{few_test, few_test_lem}
use Rattle.few_subjects.proofs.counts_fit.Goals as goal

pub loop-s-init : goal.loop-s-init
loop-s-init c = merged_none _

pub loop-s-preserved : goal.loop-s-preserved
loop-s-preserved c =
    let l = c.loop-s in
    let k = c.args.counts.now in
    ap (λ (x : ℕ). bit_or l.wrong x) (c.fault-wrong.ensures ∙ ap fault_of (few_test_lem k l.s _ c.counts.ensures))
    ∙ merged_more l.s (λ i. fault_of (few_test k i)) l.wrong l.invariant

pub returns : goal.returns
returns c = merged_done _ _ _ _ c.loop-s.auto.s-end c.loop-s-test.false c.loop-s.invariant ∙ no_fault _ _
