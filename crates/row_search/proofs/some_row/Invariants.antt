-- The loop's invariant: bit j is seen where a row below r passes the test.
use mathlib.Core.Path.{◌≡◌}
use Rattle.matrix.specs.Bounded.{any}
use Rattle.matrix.specs.Bytes.{bit}
use Rattle.row_search.specs.Rows.{row_has}
use Rattle.row_search.proofs.some_row.Given as goal

abbrev pub invariant-loop-r : goal.invariant-loop-r
invariant-loop-r l = bit l.j l.seen ≡ any l.r (row_has l.b l.c l.j l.skip)
