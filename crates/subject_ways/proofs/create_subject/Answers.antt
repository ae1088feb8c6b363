-- `subject_ways::create_subject` meets its contract.
use mathlib.Core.Path.{sym, ◌∙◌, ap}
use Rattle.matrix.specs.declared.Command.{Command}
use Rattle.matrix.specs.declared.Act.TheVariants.{CreateSubject}
use Rattle.matrix.specs.Changes.{change}
use Rattle.matrix.specs.Reading.{state_of}
use Rattle.bits.specs.Steps.{became_as}
use Rattle.short_ways.specs.Ready.{row_i, row_s}
use Rattle.short_ways.specs.Allowed.{left_alone, made}
use Rattle.subject_ways.specs.Subjects.{on_names, answered_created}
use Rattle.subject_ways.proofs.create_subject.Goals as goal

pub returns-then-c-ne0 : goal.returns-then-c-ne0
returns-then-c-ne0 c = left_alone

pub subject_exists-requires : goal.subject_exists-requires
subject_exists-requires c = (c.requires.0.station, row_i c.args.f c.args.c c.requires.0.names)

pub returns-then-not-subject_exists : goal.returns-then-not-subject_exists
returns-then-not-subject_exists c = left_alone

pub subject_exists-requires-2 : goal.subject_exists-requires-2
subject_exists-requires-2 c = (c.requires.0.station, row_s c.args.f c.args.c c.requires.0.names)

pub returns-then-subject_exists : goal.returns-then-subject_exists
returns-then-subject_exists c = left_alone

pub create_subject-requires : goal.create_subject-requires
create_subject-requires c = on_names c.args.c c.requires.0 CreateSubject c.command_of.ensures tt

pub returns : goal.returns
returns c =
    made
    (answered_created c.args.c c.requires.0 c.requires.1 c.if-c-ne0.false (sym c.subject_exists.ensures ∙ c.if-not-subject_exists.false)
    (sym c.subject_exists-2.ensures ∙ c.if-subject_exists.false)
    (became_as c.create_subject.ensures (ap (λ (d : Command). change (state_of c.args.b.now) d CreateSubject) c.command_of.ensures)))
