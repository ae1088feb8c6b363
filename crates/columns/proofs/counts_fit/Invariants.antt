-- The invariant: `wrong` is the faults of the subjects below s, merged.
use Rattle.std.proofs.Common.{◌≡◌}
use Rattle.lanes.specs.Lanes.{merged, fault_of}
use Rattle.columns.specs.Checks.{count_test}
use Rattle.columns.proofs.counts_fit.Given as goal

abbrev pub invariant-loop-s : goal.invariant-loop-s
invariant-loop-s g l = l.wrong ≡ merged l.s (λ i. fault_of (count_test g.W.Width.LANES l.tally l.odd i))
