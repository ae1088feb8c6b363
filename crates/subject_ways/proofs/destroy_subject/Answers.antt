-- `subject_ways::destroy_subject` meets its contract.
use mathlib.Core.Path.{sym, ◌∙◌, ap}
use borrow.Author.Tests.{lt-ltb}
use Rattle.matrix.specs.declared.Command.{Command}
use Rattle.matrix.specs.declared.Act.TheVariants.{DestroySubject}
use Rattle.matrix.specs.Changes.{change}
use Rattle.matrix.specs.Reading.{state_of}
use Rattle.bits.specs.Steps.{became_as}
use Rattle.short_ways.specs.Ready.{row_i, row_s}
use Rattle.short_ways.specs.Allowed.{left_alone, made}
use Rattle.subject_ways.specs.Subjects.{on_names, answered_destroyed}
use Rattle.subject_ways.proofs.destroy_subject.Goals as goal

pub returns-then-c-ne0 : goal.returns-then-c-ne0
returns-then-c-ne0 c = left_alone

pub has_bit-requires : goal.has_bit-requires
has_bit-requires c =
    record { station = c.requires.0.station; right = tt; row = row_i c.args.f c.args.c c.requires.0.names; column = lt-ltb _ _ (row_s c.args.f c.args.c c.requires.0.names) }

pub returns-then-not-has_bit : goal.returns-then-not-has_bit
returns-then-not-has_bit c = left_alone

pub destroy_subject-requires : goal.destroy_subject-requires
destroy_subject-requires c = on_names c.args.c c.requires.0 DestroySubject c.command_of.ensures tt

pub returns : goal.returns
returns c =
    made
    (answered_destroyed c.args.c c.requires.0 c.requires.1 c.if-c-ne0.false (sym c.has_bit.ensures ∙ c.if-not-has_bit.false)
    (became_as c.destroy_subject.ensures (ap (λ (d : Command). change (state_of c.args.b.now) d DestroySubject) c.command_of.ensures)))
