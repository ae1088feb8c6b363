-- The loop's invariant: the lower half of what is seen is clear where every cell passed so far is a number of two bytes.
use Rattle.std.proofs.Common.{◌≡◌, ◌%◌, eqb}
use Rattle.matrix.specs.Bounded.{all}
use Rattle.cell_words.specs.Upper.{small_at}
use Rattle.cell_words.proofs.too_wide.Given as goal

abbrev pub invariant-loop-k : goal.invariant-loop-k
invariant-loop-k l = eqb (l.seen % 65536) 0 ≡ all l.k (small_at l.b l.f)
