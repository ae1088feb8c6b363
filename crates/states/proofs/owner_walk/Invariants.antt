-- The loop's invariant: what is left of the walk is the whole walk's answer.
use Prim.Native.Nat.{◌-◌, ◌<◌}
use mathlib.Core.Path.{◌≡◌}
use Rattle.matrix.specs.declared.Name.TheVariants.{Subject}
use Rattle.matrix.specs.Owners.{walk, walk_from}
use Rattle.matrix.specs.Reading.{state_of}
use Rattle.states.proofs.owner_walk.Given as goal

abbrev pub invariant-up : goal.invariant-up
invariant-up l =
    (l.at < l.f.n) × (walk_from (state_of l.b).top (state_of l.b).owns (l.f.n - l.links) l.at (Subject l.o) l.links ≡ walk (state_of l.b) l.s (Subject l.o))

abbrev pub decreases-up : goal.decreases-up
decreases-up l = l.f.n - l.links
