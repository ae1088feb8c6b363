-- The loop's invariant: own is gained in the columns whose bytes are passed so far.
use Rattle.std.proofs.Common.{◌/◌}
use Rattle.matrix.specs.Shape.{shape_of}
use Rattle.matrix.specs.Reading.{state_of}
use Rattle.bits.specs.Became.{Became}
use Rattle.bits.specs.Passed.{inherit_part}
use Rattle.bits.proofs.inherit_own.Given as goal

abbrev pub invariant-loop-k : goal.invariant-loop-k
invariant-loop-k l = Became l.initial.b l.b (inherit_part (shape_of l.initial.b).n l.i l.s (l.k / l.f.width) (state_of l.initial.b))
