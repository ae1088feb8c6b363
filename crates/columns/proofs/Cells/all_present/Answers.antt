-- `columns::Cells::all_present` meets its contract.
use Rattle.std.proofs.Common.{arith, ℕ, ◌∙◌, ap, bit_or}
use Rattle.matrix.specs.Bytes.{bit}
use Rattle.lanes.specs.Lanes.{fault_of}
use Rattle.lanes.specs.Zeros.{merged_none, merged_more, merged_done, no_fault}
use Rattle.columns.specs.Checks.{present}
use Rattle.columns.proofs.Cells.all_present.Goals as goal

pub loop-s-init : goal.loop-s-init
loop-s-init g c = merged_none _

pub loop-s-preserved : goal.loop-s-preserved
loop-s-preserved g c =
    let l = c.loop-s in
    let m = c.args.self.now.lanes in
    ap (λ (x : ℕ). bit_or l.missing x) (c.fault-missing.ensures ∙ ap fault_of (c.controls.ensures ∙ ap (bit 1) c.own.ensures.upper))
    ∙ merged_more l.s (λ i. fault_of (present g.W.Width.LANES m.bytes.now m.matrix i)) l.missing l.invariant

pub returns : goal.returns
returns g c = merged_done _ _ _ _ (omega arith) (omega arith) c.loop-s.invariant ∙ no_fault _ _
