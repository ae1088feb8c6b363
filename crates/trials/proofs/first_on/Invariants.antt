-- The loop's invariant: the commands that are left come to the same here as all of them do at the start.
use lib.ListN.{length}
use mathlib.Core.Path.{◌≡◌}
use Rattle.matrix.specs.Shape.{most_subjects}
use Rattle.matrix.specs.CommandList.{commands_of}
use Rattle.lists.specs.Left.{commands_left}
use Rattle.runs.specs.Reached.{Reached}
use Rattle.trials.specs.Steps.{found_from}
use Rattle.trials.proofs.first_on.Given as goal

abbrev pub invariant-loop-c : goal.invariant-loop-c
invariant-loop-c l = record {
  reached : Reached (found_from l.initial.b l.s l.o l.right) l.initial.b l.b l.f l.before (commands_left l.c-iterator.list.bytes.now l.c-iterator.at) (commands_of l.list.bytes.now);
  table : length l.owners ≡ most_subjects;
}
