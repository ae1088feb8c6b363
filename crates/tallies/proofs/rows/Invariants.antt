-- The invariant: the halves of the numbers count the first r rows.
use Rattle.tallies.specs.Halves.{row_half, Halves}
use Rattle.tallies.proofs.rows.Given as goal

abbrev pub invariant-loop-r : goal.invariant-loop-r
invariant-loop-r l = Halves (row_half l.both l.m.bytes.now l.m.matrix l.c) l.r l.counts
