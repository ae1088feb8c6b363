-- The invariant: every subject below s passes.
use Rattle.std.proofs.Common.{◌≡◌, true, get_or}
use Rattle.matrix.specs.Bounded.{all}
use Rattle.columns.specs.Checks.{subject_test}
use Rattle.columns.proofs.Cells.with_absent.Given as goal

abbrev pub invariant-loop-s : goal.invariant-loop-s
invariant-loop-s g l =
    all l.s (subject_test g.W.Width.LANES l.self.lanes.bytes.now l.self.lanes.matrix (λ j. get_or l.seen j 0) l.tally l.odd) ≡ true
