-- The loop's invariant: the commands that are left end as the whole run does.
use lib.ListN.{length}
use mathlib.Core.Path.{◌≡◌}
use Rattle.matrix.specs.Shape.{most_subjects}
use Rattle.matrix.specs.CommandList.{commands_of}
use Rattle.lists.specs.Left.{commands_left}
use Rattle.runs.specs.Reached.{Reached, ran_from}
use Rattle.runs.proofs.run_on.Given as goal

abbrev pub invariant-loop-c : goal.invariant-loop-c
invariant-loop-c l = record {
  reached : Reached (ran_from l.initial.b) l.initial.b l.b l.f l.accepted (commands_left l.c-iterator.list.bytes.now l.c-iterator.at) (commands_of l.list.bytes.now);
  table : length l.owners ≡ most_subjects;
}
