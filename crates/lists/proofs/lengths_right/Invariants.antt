-- The loop's invariant: the commands that are left decide.
use mathlib.Core.Path.{◌≡◌}
use Rattle.std.specs.Slice.Iter.{chunks_exact_rest, chunks_exact_size}
use Rattle.lists.specs.Forms.{lengths_right}
use Rattle.lists.proofs.lengths_right.Given as goal

abbrev pub invariant-loop-command : goal.invariant-loop-command
invariant-loop-command l = (chunks_exact_size l.command-iterator ≡ 6) × (lengths_right l.commands ≡ lengths_right (chunks_exact_rest l.command-iterator))
