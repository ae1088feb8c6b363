-- The invariant: `missing` is the faults of the subjects below s, merged.
use Rattle.std.proofs.Common.{◌≡◌}
use Rattle.lanes.specs.Lanes.{merged, fault_of}
use Rattle.columns.specs.Checks.{present}
use Rattle.columns.proofs.Cells.all_present.Given as goal

abbrev pub invariant-loop-s : goal.invariant-loop-s
invariant-loop-s g l = l.missing ≡ merged l.s (λ i. fault_of (present g.W.Width.LANES l.self.lanes.bytes.now l.self.lanes.matrix i))
