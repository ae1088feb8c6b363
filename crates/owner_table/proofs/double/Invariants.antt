-- The invariant: the entries below s are filled.
use Rattle.std.proofs.Common.{◌≡◌, ℕ, ◌<◌}
use Rattle.owner_table.specs.Table.{owner_in}
use Rattle.owner_table.proofs.double.Given as goal

abbrev pub invariant-loop-s : goal.invariant-loop-s
invariant-loop-s l = (i : ℕ) → i < l.s → owner_in l.u i ≡ owner_in l.t (owner_in l.t i)
