-- The invariant: none of the subjects before place t owns o.
use Rattle.matrix.specs.declared.Name.TheVariants.{Plain}
use Rattle.matrix.specs.Reading.{state_of}
use Rattle.climbing.specs.Needed.{NoneBefore}
use Rattle.climbing.proofs.needed_of.Given as goal

abbrev pub invariant-loop-t : goal.invariant-loop-t
invariant-loop-t l = NoneBefore (state_of l.r.b.now).owns (Plain l.o) l.path l.t
