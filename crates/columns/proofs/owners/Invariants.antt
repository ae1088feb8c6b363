-- The invariant: the subjects below s have their owners.
use Rattle.std.proofs.Common.{get_or}
use Rattle.lanes.specs.Lists.{Stored}
use Rattle.columns.specs.Cells.{last_lane}
use Rattle.columns.proofs.owners.Given as goal

abbrev pub invariant-loop-s : goal.invariant-loop-s
invariant-loop-s g l = Stored l.s (λ i. get_or l.marks (last_lane g.W.Width.LANES i) 0) l.initial.owners l.owners
