-- `holding::is_held` meets its contract: the cell and the mask share a bit.
use native.Mathlib.Omega.{arith}
use Rattle.codec.proofs.ShapeRight.{bits_most}
use Rattle.cells.specs.Station.{right_shape}
use Rattle.holding.proofs.MaskHolds.{held_on_record}
use Rattle.holding.proofs.is_held.Goals as goal

pub mask_of-requires : goal.mask_of-requires
mask_of-requires c =
    let h = c.requires in omega (arith, h.1, bits_most _ (right_shape h.0.station))

pub returns : goal.returns
returns c =
    let h = c.requires in
    held_on_record h.0 h.1 c.cell.ensures c.mask_of.ensures
