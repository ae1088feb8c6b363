-- `owner_table::descends` meets its contract.
use Rattle.std.proofs.Common.{ℕ, ◌∙◌, ap, ltb, get_or, bit_or}
use Rattle.lanes.specs.Lanes.{fault_of}
use Rattle.lanes.specs.Zeros.{merged_none, merged_more, merged_done, no_fault}
use Rattle.owner_table.specs.Table.{lower_test, lower_is}
use Rattle.owner_table.proofs.descends.Goals as goal

pub loop-s-init : goal.loop-s-init
loop-s-init c = merged_none _

pub loop-s-preserved : goal.loop-s-preserved
loop-s-preserved c =
    let l = c.loop-s in
    let o = c.args.owners.now in
    ap (λ (x : ℕ). bit_or l.wrong x)
    (c.fault-wrong.ensures ∙ ap fault_of (ap (λ (m : ℕ). ltb (get_or o l.s 0) m) c.max.ensures ∙ lower_is o l.s))
    ∙ merged_more l.s (λ i. fault_of (lower_test o i)) l.wrong l.invariant

pub returns : goal.returns
returns c =
    merged_done _ _ _ _ c.loop-s.auto.s-end c.loop-s-test.false c.loop-s.invariant ∙ no_fault _ _
