-- `subject_ways::grant_control` meets its contract.
use native.Mathlib.Omega.{arith}
use mathlib.Core.Path.{sym, ◌∙◌}
use borrow.Author.Tests.{lt-ltb}
use Rattle.short_ways.specs.Ready.{row_i, row_s}
use Rattle.short_ways.specs.Allowed.{left_alone, made}
use Rattle.subject_ways.specs.Subjects.{answered_controlled}
use Rattle.subject_ways.proofs.grant_control.Goals as goal

pub returns-then-f-c : goal.returns-then-f-c
returns-then-f-c c = left_alone

pub subject_exists-requires : goal.subject_exists-requires
subject_exists-requires c = (c.requires.0.station, row_s c.args.f c.args.c c.requires.0.names)

pub returns-then-not-subject_exists : goal.returns-then-not-subject_exists
returns-then-not-subject_exists c = left_alone

pub has_bit-requires : goal.has_bit-requires
has_bit-requires c =
    record { station = c.requires.0.station; right = tt; row = row_i c.args.f c.args.c c.requires.0.names; column = lt-ltb c.args.c.o c.args.f.n (omega (arith, c.if-f-c.false)) }

pub returns-then-not-has_bit : goal.returns-then-not-has_bit
returns-then-not-has_bit c = left_alone

pub controlled-requires : goal.controlled-requires
controlled-requires c = (c.requires.0.station, omega (arith, c.if-f-c.false))

pub returns-then-controlled : goal.returns-then-controlled
returns-then-controlled c = left_alone

pub put_right-requires : goal.put_right-requires
put_right-requires c =
    record { station = c.requires.0.station; right = tt; row = row_s c.args.f c.args.c c.requires.0.names; column = lt-ltb c.args.c.o c.args.f.n (omega (arith, c.if-f-c.false)) }

pub returns : goal.returns
returns c =
    made
    (answered_controlled c.args.c c.requires.0 c.requires.1 (omega (arith, c.if-f-c.false)) (sym c.subject_exists.ensures ∙ c.if-not-subject_exists.false)
    (sym c.has_bit.ensures ∙ c.if-not-has_bit.false) (sym c.controlled.ensures ∙ c.if-controlled.false) c.put_right.ensures)
