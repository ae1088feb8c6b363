-- `object_ways::create_object` meets its contract.
use mathlib.Core.Path.{sym, ◌∙◌, ap}
use mathlib.Core.Bool.{true}
use Rattle.matrix.specs.declared.Name.{Name}
use Rattle.matrix.specs.declared.Right.TheVariants.{Own}
use Rattle.matrix.specs.declared.Kind.TheVariants.{PlainName}
use Rattle.matrix.specs.State.{exists_name, put}
use Rattle.matrix.specs.Tests.{kind_fits}
use Rattle.matrix.specs.Reading.{state_of}
use Rattle.bits.specs.Steps.{became_as}
use Rattle.short_ways.specs.Ready.{row_i, name_is}
use Rattle.short_ways.specs.Allowed.{left_alone, made, at_name}
use Rattle.object_ways.specs.Objects.{own_in, answered_create}
use Rattle.object_ways.proofs.create_object.Goals as goal

pub returns-then-c-ne0 : goal.returns-then-c-ne0
returns-then-c-ne0 c = left_alone

pub returns-then-not-kind_fits : goal.returns-then-not-kind_fits
returns-then-not-kind_fits c = left_alone

pub subject_exists-requires : goal.subject_exists-requires
subject_exists-requires c = (c.requires.0.station, row_i c.args.f c.args.c c.requires.0.names)

pub returns-then-not-subject_exists : goal.returns-then-not-subject_exists
returns-then-not-subject_exists c = left_alone

pub name_exists-requires : goal.name_exists-requires
name_exists-requires c = record { station = c.requires.0.station; column = name_is c.args.f c.args.c c.name_of-o.ensures c.requires.0.names }

pub returns-then-name_exists : goal.returns-then-name_exists
returns-then-name_exists c = left_alone

pub put_right-requires : goal.put_right-requires
put_right-requires c = own_in c.args.c c.requires.0 (row_i c.args.f c.args.c c.requires.0.names) c.name_of-o.ensures

pub returns : goal.returns
returns c =
    let x = c.name_of-o.ensures in
    made
    (answered_create c.args.c c.requires.0 (at_name (kind_fits PlainName) x c.kind_fits.ensures c.if-not-kind_fits.false) c.requires.1 c.if-c-ne0.false (sym c.subject_exists.ensures ∙ c.if-not-subject_exists.false)
    (at_name (λ (x : Name). exists_name (state_of c.args.b.now) x) x c.name_exists.ensures c.if-name_exists.false)
    (became_as c.put_right.ensures (ap (λ (x : Name). put Own c.args.c.i x true (state_of c.args.b.now)) x)))
