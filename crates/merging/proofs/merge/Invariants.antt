-- The invariants: row r has joined the places below j of `seen`, and the rows before it the first k places.
use Prim.Native.Nat.{◌+◌}
use lib.ListN.{length}
use Rattle.lanes.specs.Lanes.{lane_at}
use Rattle.merging.specs.Rows.{Joined}
use Rattle.merging.proofs.merge.Given as goal

abbrev pub invariant-loop-j : goal.invariant-loop-j
invariant-loop-j l = Joined (length l.initial.seen) l.k (λ v x. lane_at l.m.bytes.now l.m.matrix v (l.c + x)) l.r l.j l.seen

abbrev pub invariant-loop-r : goal.invariant-loop-r
invariant-loop-r l = Joined (length l.initial.seen) l.k (λ v x. lane_at l.m.bytes.now l.m.matrix v (l.c + x)) l.r 0 l.seen
