-- The loop's invariant: no subject below w is an owner whose way up meets an untrusted one.
use mathlib.Core.Path.{◌≡◌}
use mathlib.Core.Bool.{false}
use Rattle.matrix.specs.declared.Name.TheVariants.{Plain}
use Rattle.matrix.specs.Bounded.{any}
use Rattle.matrix.specs.Reading.{state_of}
use Rattle.question.specs.Trust.{trusted_by}
use Rattle.ways.specs.Ways.{riser}
use Rattle.rising.specs.Shut.{ShutAll}
use Rattle.climbing.proofs.way_over_plain.Given as goal

abbrev pub invariant-loop-w : goal.invariant-loop-w
invariant-loop-w l =
    record {
      none_below : any l.w (riser (state_of l.r.b.now) (trusted_by l.trust) (Plain l.o)) ≡ false;
      shut : ShutAll (state_of l.r.b.now) (trusted_by l.trust) l.closed;
    }
