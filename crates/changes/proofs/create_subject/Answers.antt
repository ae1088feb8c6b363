-- `changes::create_subject` meets its contract: own and control are given in turn.
use native.Mathlib.Omega.{arith}
use borrow.Author.Tests.{lt-ltb}
use Rattle.bits.specs.Steps.{bit_after, length_after}
use Rattle.changes.specs.Effects.{created}
use Rattle.changes.proofs.create_subject.Goals as goal

pub put_right-requires : goal.put_right-requires
put_right-requires c =
    let q = c.requires in
    record { station = q.station; right = tt; row = q.initiator; column = lt-ltb _ _ q.subject }

pub put_right-requires-2 : goal.put_right-requires-2
put_right-requires-2 c =
    let q = c.requires in
    bit_after q.station c.put_right.ensures tt (omega arith) (lt-ltb _ _ q.subject)

pub returns : goal.returns
returns c =
    let a = c.args in
    let q = c.requires in
    created a.c.i a.c.s q.station q.subject c.put_right.ensures c.put_right-2.ensures

pub shape_of-b : goal.shape_of-b
shape_of-b c = length_after c.requires.station (returns c)
