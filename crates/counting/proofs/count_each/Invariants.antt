-- The invariant: the lanes below c are counted.
use lib.ListN.{length}
use Rattle.tallies.specs.Blocks.{Below}
use Rattle.counting.proofs.count_each.Given as goal

abbrev pub invariant-loop-c : goal.invariant-loop-c
invariant-loop-c l = Below (length l.initial.tally) l.m.bytes.now l.m.matrix l.c l.tally l.odd l.marks
