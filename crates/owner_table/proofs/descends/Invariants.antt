-- The invariant: `wrong` is the faults of the subjects below s, merged.
use Rattle.std.proofs.Common.{◌≡◌}
use Rattle.lanes.specs.Lanes.{merged, fault_of}
use Rattle.owner_table.specs.Table.{lower_test}
use Rattle.owner_table.proofs.descends.Given as goal

abbrev pub invariant-loop-s : goal.invariant-loop-s
invariant-loop-s l = l.wrong ≡ merged l.s (λ i. fault_of (lower_test l.owners i))
