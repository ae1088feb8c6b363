-- The loop's invariant: no subject is passed over that is an untrusted one with the star.
use Rattle.matrix.specs.declared.Form.TheVariants.{Starred}
use Rattle.matrix.specs.Reading.{state_of}
use Rattle.question.specs.Trust.{trusted_by}
use Rattle.targets.specs.Passing.{Passed}
use Rattle.targets.proofs.star_row.Given as goal

abbrev pub invariant-loop-v : goal.invariant-loop-v
invariant-loop-v l = Passed (trusted_by l.trust) (λ j. (state_of l.b).basic l.k Starred j l.x) l.f.n l.v-iterator.left
