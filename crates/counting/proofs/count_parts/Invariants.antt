-- The invariant: the lanes below c are counted, and c is a whole number of parts, so that the next part fits the lists.
use Prim.Native.Nat.{◌-◌, ◌%◌}
use mathlib.Core.Path.{◌≡◌}
use lib.ListN.{length}
use Rattle.tallies.specs.Blocks.{Below}
use Rattle.tallies.specs.Halves.{lanes_at}
use Rattle.counting.proofs.count_parts.Given as goal

abbrev pub invariant-loop-c : goal.invariant-loop-c
invariant-loop-c l = (l.step ≡ lanes_at l.both) × (l.c % lanes_at l.both ≡ 0) × Below (length l.initial.tally) l.m.bytes.now l.m.matrix l.c l.tally l.odd l.marks

abbrev pub decreases-loop-c : goal.decreases-loop-c
decreases-loop-c l = l.upto - l.c
