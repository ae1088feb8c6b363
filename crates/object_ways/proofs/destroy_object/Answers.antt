-- `object_ways::destroy_object` meets its contract.
use Rattle.matrix.specs.declared.Name.{Name}
use Rattle.matrix.specs.declared.Kind.TheVariants.{PlainName}
use Rattle.matrix.specs.Tests.{kind_fits}
use Rattle.matrix.specs.Reading.{state_of}
use Rattle.short_ways.specs.Ready.{row_i, column_o}
use Rattle.short_ways.specs.Allowed.{left_alone, made, at_name}
use Rattle.object_ways.specs.Objects.{own_in, answered_destroy}
use Rattle.object_ways.proofs.destroy_object.Goals as goal

pub returns-then-c-ne0 : goal.returns-then-c-ne0
returns-then-c-ne0 c = left_alone

pub returns-then-not-kind_fits : goal.returns-then-not-kind_fits
returns-then-not-kind_fits c = left_alone

pub has_bit-requires : goal.has_bit-requires
has_bit-requires c = own_in c.args.c c.requires.0 (row_i c.args.f c.args.c c.requires.0.names) c.name_of-o.ensures

pub returns-then-not-has_bit : goal.returns-then-not-has_bit
returns-then-not-has_bit c = left_alone

pub clear_column-requires : goal.clear_column-requires
clear_column-requires c = (c.requires.0.station, column_o c.args.f c.args.c c.requires.0.names)

pub returns : goal.returns
returns c =
    let x = c.name_of-o.ensures in
    made
    (answered_destroy c.args.c c.requires.0 (at_name (kind_fits PlainName) x c.kind_fits.ensures c.if-not-kind_fits.false) c.requires.1 c.if-c-ne0.false
    (at_name (λ (x : Name). (state_of c.args.b.now).owns c.args.c.i x) x c.has_bit.ensures c.if-not-has_bit.false) c.clear_column.ensures)
