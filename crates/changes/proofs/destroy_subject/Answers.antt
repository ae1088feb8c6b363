-- `changes::destroy_subject` meets its contract: what s owns is inherited before its column and its row are cleared.
use native.Mathlib.Omega.{arith}
use Rattle.bits.specs.Steps.{station_after, length_after}
use Rattle.changes.specs.Effects.{destroyed}
use Rattle.changes.proofs.destroy_subject.Goals as goal

pub clear_column-requires : goal.clear_column-requires
clear_column-requires c =
    (station_after c.requires.station c.inherit_own.ensures, omega (arith, c.requires.subject))

pub clear_row-requires : goal.clear_row-requires
clear_row-requires c =
    let q = c.requires in
    (station_after (station_after q.station c.inherit_own.ensures) c.clear_column.ensures, omega arith)

pub returns : goal.returns
returns c =
    let a = c.args in
    destroyed a.f.n a.c.i a.c.s c.requires.subject
    c.inherit_own.ensures c.clear_column.ensures c.clear_row.ensures

pub shape_of-b : goal.shape_of-b
shape_of-b c = length_after c.requires.station (returns c)
