-- The invariant: of the parities below j the two low bits alone are left.
use Rattle.tallies.specs.Halves.{LowAlone}
use Rattle.tallies.proofs.Counts.keep_low.Given as goal

abbrev pub invariant-loop-j : goal.invariant-loop-j
invariant-loop-j l = LowAlone l.j l.initial.self l.self
