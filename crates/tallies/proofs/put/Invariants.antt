-- The invariant: the first j places are filled.
use Prim.Native.Nat.{◌-◌}
use Rattle.lanes.specs.Lists.{Filled}
use Rattle.tallies.specs.Halves.{taken}
use Rattle.tallies.proofs.put.Given as goal

abbrev pub invariant-loop-j : goal.invariant-loop-j
invariant-loop-j l = Filled l.c l.j (λ x. taken l.counts l.unit (x - l.c)) l.initial.list l.list
