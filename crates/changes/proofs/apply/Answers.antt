-- `changes::apply` meets its contract: each arm makes the change of its act.
use Rattle.changes.specs.Effects.{right_of, object_column, acted, object_cleared}
use native.Mathlib.Omega.{arith}
use Rattle.bits.specs.Steps.{length_after}
use Rattle.changes.proofs.apply.Goals as goal

pub transfer-requires : goal.transfer-requires
transfer-requires c = (c.requires, right_of c.requires c.in-Transfer.is)

pub put_right-requires : goal.put_right-requires
put_right-requires c =
    let q = c.requires in
    record { station = q.station; right = right_of q c.in-Grant.is; row = omega arith; column = q.object }

pub put_right-requires-in-Delete : goal.put_right-requires-in-Delete
put_right-requires-in-Delete c =
    let q = c.requires in
    record { station = q.station; right = right_of q c.in-Delete.is; row = omega arith; column = q.object }

pub clear_column-requires : goal.clear_column-requires
clear_column-requires c = (c.requires.station, object_column c.requires c.column_of.ensures)

pub returns-in-Transfer : goal.returns-in-Transfer
returns-in-Transfer c = acted c.args.c c.in-Transfer.is c.transfer.ensures

pub shape_of-b-in-Transfer : goal.shape_of-b-in-Transfer
shape_of-b-in-Transfer c = length_after c.requires.station (returns-in-Transfer c)

pub returns-in-Grant : goal.returns-in-Grant
returns-in-Grant c = acted c.args.c c.in-Grant.is c.put_right.ensures

pub shape_of-b-in-Grant : goal.shape_of-b-in-Grant
shape_of-b-in-Grant c = length_after c.requires.station (returns-in-Grant c)

pub returns-in-Delete : goal.returns-in-Delete
returns-in-Delete c = acted c.args.c c.in-Delete.is c.put_right-in-Delete.ensures

pub shape_of-b-in-Delete : goal.shape_of-b-in-Delete
shape_of-b-in-Delete c = length_after c.requires.station (returns-in-Delete c)

pub returns-in-CreateObject : goal.returns-in-CreateObject
returns-in-CreateObject c = acted c.args.c c.in-CreateObject.is c.put_right-in-CreateObject.ensures

pub shape_of-b-in-CreateObject : goal.shape_of-b-in-CreateObject
shape_of-b-in-CreateObject c = length_after c.requires.station (returns-in-CreateObject c)

pub returns-in-DestroyObject : goal.returns-in-DestroyObject
returns-in-DestroyObject c =
    object_cleared c.args.c c.requires c.in-DestroyObject.is
    c.column_of.ensures c.clear_column.ensures

pub shape_of-b-in-DestroyObject : goal.shape_of-b-in-DestroyObject
shape_of-b-in-DestroyObject c = length_after c.requires.station (returns-in-DestroyObject c)

pub returns-in-CreateSubject : goal.returns-in-CreateSubject
returns-in-CreateSubject c = acted c.args.c c.in-CreateSubject.is c.create_subject.ensures

pub shape_of-b-in-CreateSubject : goal.shape_of-b-in-CreateSubject
shape_of-b-in-CreateSubject c = length_after c.requires.station (returns-in-CreateSubject c)

pub returns-in-DestroySubject : goal.returns-in-DestroySubject
returns-in-DestroySubject c = acted c.args.c c.in-DestroySubject.is c.destroy_subject.ensures

pub shape_of-b-in-DestroySubject : goal.shape_of-b-in-DestroySubject
shape_of-b-in-DestroySubject c = length_after c.requires.station (returns-in-DestroySubject c)
