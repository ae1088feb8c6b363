-- The loop's invariant: the mask has the bits of the existing subjects passed so far.
use Rattle.masks.specs.Marks.{MarksOf}
use Rattle.masks.proofs.existing.Given as goal

abbrev pub invariant-loop-s : goal.invariant-loop-s
invariant-loop-s l = MarksOf l.b l.s l.m
