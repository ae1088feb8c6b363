-- `bits::inherit_own` meets its contract.
use Prim.Native.Nat.{ℕ, ◌+◌, ◌≤◌, ◌<◌}
use native.Mathlib.Omega.{arith}
use mathlib.Core.Path.{refl, ap}
use lib.ListN.{length}
use Rattle.codec.specs.ShapeRight.{most_bytes}
use Rattle.codec.proofs.ShapeRight.{two_or_four}
use Rattle.cells.specs.Station.{right_shape}
use Rattle.cells.specs.Places.{row_bytes}
use Rattle.bits.specs.Steps.{station_after, length_after}
use Rattle.bits.specs.OwnBytes.{byte_below}
use Rattle.bits.specs.Inherits.{inherit_none, inherit_byte, inherit_all}
use Rattle.bits.proofs.inherit_own.Goals as goal
use Rattle.bits.proofs.inherit_own.Goals.{In-loop-k}

-- byte k of a row
within : (c : In-loop-k) → c.loop-k.k < row_bytes c.args.f
within c = omega (arith, c.loop-k-test.true, c.row_bytes-bytes.ensures)

-- the two bytes of the rows stand within the record
to_below : (c : In-loop-k)
    → (c.place-to.result + c.loop-k.k < length c.loop-k.b) × (c.place-to.result + c.loop-k.k ≤ most_bytes)
to_below c =
    byte_below (station_after c.requires.0 c.loop-k.invariant) c.requires.1 (within c) c.place-to.ensures

from_below : (c : In-loop-k)
    → (c.place-from.result + c.loop-k.k < length c.loop-k.b) × (c.place-from.result + c.loop-k.k ≤ most_bytes)
from_below c =
    byte_below (station_after c.requires.0 c.loop-k.invariant) c.requires.2 (within c) c.place-from.ensures

pub place-to-requires : goal.place-to-requires
place-to-requires c = let q = c.requires in (right_shape q.0, q.1, omega (arith, (right_shape q.0).low))

pub place-from-requires : goal.place-from-requires
place-from-requires c = let q = c.requires in (right_shape q.0, q.2, omega (arith, (right_shape q.0).low))

pub row_bytes-bytes-requires : goal.row_bytes-bytes-requires
row_bytes-bytes-requires c = right_shape c.requires.0

pub loop-k-init : goal.loop-k-init
loop-k-init c = inherit_none c.args.i c.args.s c.requires.0

pub overflow_add-to : goal.overflow_add-to
overflow_add-to c = omega (arith, (to_below c).1)

pub bounds-b-to : goal.bounds-b-to
bounds-b-to c = omega (arith, (to_below (goal.at.bounds-b-to c).In-loop-k).0)

pub overflow_add-from : goal.overflow_add-from
overflow_add-from c = omega (arith, (from_below (goal.at.overflow_add-from c).In-loop-k).1)

pub bounds-b-from : goal.bounds-b-from
bounds-b-from c = omega (arith, (from_below (goal.at.bounds-b-from c).In-loop-k).0)

pub own_joined-requires : goal.own_joined-requires
own_joined-requires c = two_or_four c.args.f (right_shape c.requires.0)

pub overflow_add-b : goal.overflow_add-b
overflow_add-b c = omega (arith, (to_below (goal.at.overflow_add-b c).In-loop-k).1)

pub bounds-b-to-in-loop-k : goal.bounds-b-to-in-loop-k
bounds-b-to-in-loop-k c = omega (arith, (to_below (goal.at.bounds-b-to-in-loop-k c).In-loop-k).0)

pub loop-k-preserved : goal.loop-k-preserved
loop-k-preserved c =
    let to = c.place-to.ensures in
    let from = c.place-from.ensures in
    inherit_byte c.args.i c.args.s c.requires.0 c.loop-k.invariant c.requires.1 c.requires.2 (within (goal.at.loop-k-preserved c).In-loop-k) (ap (λ (m : ℕ). m + c.loop-k.k) to) (ap (λ (m : ℕ). m + c.loop-k.k) from) c.own_joined.ensures refl

pub shape_of-b : goal.shape_of-b
shape_of-b c = length_after c.requires.0 c.loop-k.invariant

pub returns : goal.returns
returns c =
    inherit_all c.args.i c.args.s c.requires.0 (omega (arith, c.loop-k-test.false, c.row_bytes-bytes.ensures)) c.loop-k.invariant
