-- `object_ways::give_own` meets its contract.
use mathlib.Core.Path.{sym, ◌∙◌}
use Rattle.matrix.specs.declared.Name.{Name}
use Rattle.matrix.specs.declared.Kind.TheVariants.{PlainName}
use Rattle.matrix.specs.Tests.{kind_fits}
use Rattle.matrix.specs.Reading.{state_of}
use Rattle.bits.specs.Steps.{bit_after}
use Rattle.short_ways.specs.Ready.{row_i, row_s, name_is}
use Rattle.short_ways.specs.Allowed.{left_alone, made, at_name}
use Rattle.object_ways.specs.Objects.{own_in, own_given, answered_given}
use Rattle.object_ways.proofs.give_own.Goals as goal

pub returns-then-not-kind_fits : goal.returns-then-not-kind_fits
returns-then-not-kind_fits c = left_alone

pub subject_exists-there-requires : goal.subject_exists-there-requires
subject_exists-there-requires c = (c.requires.0.station, row_s c.args.f c.args.c c.requires.0.names)

pub returns-then-not-there : goal.returns-then-not-there
returns-then-not-there c = left_alone

pub has_bit-requires : goal.has_bit-requires
has_bit-requires c = own_in c.args.c c.requires.0 (row_i c.args.f c.args.c c.requires.0.names) c.name_of-o.ensures

pub returns-then-not-has_bit : goal.returns-then-not-has_bit
returns-then-not-has_bit c = left_alone

pub put_right-requires : goal.put_right-requires
put_right-requires c = own_in c.args.c c.requires.0 (row_i c.args.f c.args.c c.requires.0.names) c.name_of-o.ensures

pub put_right-requires-2 : goal.put_right-requires-2
put_right-requires-2 c =
    bit_after c.requires.0.station c.put_right.ensures tt (row_s c.args.f c.args.c c.requires.0.names)
    (name_is c.args.f c.args.c c.name_of-o.ensures c.requires.0.names)

pub returns : goal.returns
returns c =
    let x = c.name_of-o.ensures in
    made
    (answered_given c.args.c c.requires.0 (at_name (kind_fits PlainName) x c.kind_fits.ensures c.if-not-kind_fits.false) c.args.keeps c.requires.1 (sym c.subject_exists-there.ensures ∙ c.if-not-there.false)
    (at_name (λ (x : Name). (state_of c.args.b.now).owns c.args.c.i x) x c.has_bit.ensures c.if-not-has_bit.false)
    (own_given c.args.c c.args.keeps x c.put_right.ensures c.put_right-2.ensures))
