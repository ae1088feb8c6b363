-- The loop's invariant: the cells passed so far are copied.
use Rattle.converting.specs.Needs.{Copied}
use Rattle.converting.proofs.write.Given as goal

abbrev pub invariant-loop-k : goal.invariant-loop-k
invariant-loop-k l = Copied l.b l.g l.out l.k
