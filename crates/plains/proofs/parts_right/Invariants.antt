-- The invariant: `wrong` is 0 just where every plain column below c passes its test.
use Rattle.std.proofs.Common.{◌-◌, ◌≤◌}
use Rattle.lanes.specs.Lanes.{seen_at}
use Rattle.plains.specs.Checks.{plain_test}
use Rattle.plains.specs.Parts.{Tested}
use Rattle.plains.proofs.parts_right.Given as goal

abbrev pub invariant-loop-c : goal.invariant-loop-c
invariant-loop-c g l =
    (l.n ≤ l.c) × Tested (plain_test g.W.Width.LANES (seen_at l.cells.lanes.bytes.now l.cells.lanes.matrix)) l.n l.all l.c l.wrong

abbrev pub decreases-loop-c : goal.decreases-loop-c
decreases-loop-c g l = l.all - l.c
