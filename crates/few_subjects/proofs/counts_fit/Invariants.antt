-- The invariant: `wrong` is the faults of the subjects below s, merged.
use mathlib.Core.Path.{◌≡◌}
use Rattle.lanes.specs.Lanes.{merged, fault_of}
use Rattle.few_subjects.specs.Counts.{few_test}
use Rattle.few_subjects.proofs.counts_fit.Given as goal

abbrev pub invariant-loop-s : goal.invariant-loop-s
invariant-loop-s l = l.wrong ≡ merged l.s (λ i. fault_of (few_test l.counts i))
