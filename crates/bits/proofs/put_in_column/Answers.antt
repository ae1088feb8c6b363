-- `bits::put_in_column` meets its contract: the byte of the right's bit is stored with it set or cleared.
use Prim.Native.Nat.{◌<◌}
use native.Mathlib.Omega.{arith}
use lib.ListN.{length}
use mathlib.Core.Path.{refl}
use Rattle.cells.specs.Station.{right_shape}
use Rattle.cells.specs.Places.{bit_below}
use Rattle.states.specs.Reads.{code_in, code_small}
use Rattle.bits.specs.Steps.{became_put}
use Rattle.bits.proofs.put_in_column.Goals as goal
use Rattle.bits.proofs.put_in_column.Goals.{After-bit_place-at}

pub code_of-j-requires : goal.code_of-j-requires
code_of-j-requires c =
    code_small c.args.f (right_shape c.requires.0.station) c.args.y c.requires.1

pub bit_place-at-requires : goal.bit_place-at-requires
bit_place-at-requires c =
    let g = right_shape c.requires.0.station in
    (g, c.requires.0.row, c.requires.0.column, omega (arith, c.code_of-j.ensures, code_in c.args.f g c.args.y c.requires.1))

-- the byte stands within the record
inside : (c : After-bit_place-at) → c.bit_place-at.result < length c.args.b.now
inside c =
    let g = right_shape c.requires.0.station in
    omega (arith, c.bit_place-at.ensures, bit_below c.args.b.now c.args.f c.requires.0.station c.args.w c.args.c c.code_of-j.result c.requires.0.row c.requires.0.column (omega (arith, c.code_of-j.ensures, code_in c.args.f g c.args.y c.requires.1)))

pub bounds-b-at : goal.bounds-b-at
bounds-b-at c = inside (goal.at.bounds-b-at c).After-bit_place-at

pub bounds-b-at-2 : goal.bounds-b-at-2
bounds-b-at-2 c = inside (goal.at.bounds-b-at-2 c).After-bit_place-at

pub returns : goal.returns
returns c =
    became_put c.args.y c.args.on c.requires.0 c.requires.1 c.code_of-j.ensures c.bit_place-at.ensures c.with_bit.ensures refl
