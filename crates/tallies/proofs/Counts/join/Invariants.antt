-- The invariant: the numbers below j have joined the row, those from j on are as before.
use Rattle.tallies.specs.Halves.{numbers_from, Joined}
use Rattle.tallies.proofs.Counts.join.Given as goal

abbrev pub invariant-loop-j : goal.invariant-loop-j
invariant-loop-j l = Joined (numbers_from l.both l.b l.at) l.j l.initial.self l.self
