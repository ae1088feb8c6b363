-- The loop's invariant: the cells of the rows passed so far are cleared.
use Rattle.matrix.specs.State.{clear}
use Rattle.matrix.specs.Reading.{state_of}
use Rattle.bits.specs.Became.{Became}
use Rattle.bits.specs.Passed.{column_part}
use Rattle.bits.proofs.clear_column.Given as goal

abbrev pub invariant-loop-w : goal.invariant-loop-w
invariant-loop-w l = Became l.initial.b l.b (clear (column_part l.f.n l.c l.w) (state_of l.initial.b))
