-- The invariant: what is counted of the lane is that of the first r rows.
use Rattle.lanes.specs.Lanes.{upper_at}
use Rattle.tallies.specs.Blocks.{Column}
use Rattle.tallies.proofs.one.Given as goal

abbrev pub invariant-loop-r : goal.invariant-loop-r
invariant-loop-r l = Column (λ v. upper_at l.m.bytes.now l.m.matrix v l.c) l.r l.low l.parity l.since
