-- `changes::transfer` meets its contract: each arm is a case of the definition.
use native.Mathlib.Omega.{arith}
use Rattle.bits.specs.Steps.{bit_after, length_after}
use Rattle.changes.specs.Effects.{own_transferred, control_transferred, basic_transferred}
use Rattle.changes.proofs.transfer.Goals as goal

pub put_right-requires : goal.put_right-requires
put_right-requires c =
    let q = c.requires.0 in
    record { station = q.station; right = tt; row = omega arith; column = q.object }

pub put_right-requires-in-Own : goal.put_right-requires-in-Own
put_right-requires-in-Own c =
    let q = c.requires.0 in
    bit_after q.station c.put_right.ensures tt (omega arith) q.object

pub put_right-requires-in-Basic : goal.put_right-requires-in-Basic
put_right-requires-in-Basic c =
    let q = c.requires in
    record { station = q.0.station; right = q.1; row = omega arith; column = q.0.object }

pub returns-in-Own : goal.returns-in-Own
returns-in-Own c =
    own_transferred c.args.c c.in-Own.is
    c.put_right.ensures c.put_right-in-Own.ensures

pub shape_of-b-in-Own : goal.shape_of-b-in-Own
shape_of-b-in-Own c = length_after c.requires.0.station (returns-in-Own c)

pub returns-in-Control : goal.returns-in-Control
returns-in-Control c = control_transferred c.args.c c.in-Control.is c.requires.0.station

pub returns-in-Basic : goal.returns-in-Basic
returns-in-Basic c = basic_transferred c.args.c c.in-Basic.is c.put_right-in-Basic.ensures

pub shape_of-b-in-Basic : goal.shape_of-b-in-Basic
shape_of-b-in-Basic c = length_after c.requires.0.station (returns-in-Basic c)
