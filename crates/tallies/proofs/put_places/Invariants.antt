-- The invariant: the first j places are filled.
use Prim.Native.Nat.{◌-◌}
use Rattle.lanes.specs.Lists.{Filled}
use Rattle.lanes.specs.Lanes.{place_of}
use Rattle.tallies.specs.Halves.{taken}
use Rattle.tallies.proofs.put_places.Given as goal

abbrev pub invariant-loop-j : goal.invariant-loop-j
invariant-loop-j l = Filled l.c l.j (λ x. place_of l.rows (taken l.counts l.unit (x - l.c))) l.initial.list l.list
