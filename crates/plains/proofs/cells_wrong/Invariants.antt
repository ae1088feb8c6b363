-- The invariant: `wrong` is what is wrong with the cells from `from` on below c, merged.
use Rattle.std.proofs.Common.{◌≡◌, ◌≤◌, get_or}
use Rattle.plains.specs.Checks.{plain_wrong, wrong_of}
use Rattle.plains.proofs.cells_wrong.Given as goal

abbrev pub invariant-loop-c : goal.invariant-loop-c
invariant-loop-c g l = (l.from ≤ l.c) × (l.wrong ≡ wrong_of (plain_wrong g.W.Width.LANES (λ j. get_or l.seen j 0)) l.from l.c)
