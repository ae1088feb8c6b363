-- `bits::put_right` meets its contract: the name has its column.
use Rattle.bits.specs.Steps.{bit_cell, became_named, length_after}
use Rattle.bits.proofs.put_right.Goals as goal

pub put_in_column-requires : goal.put_in_column-requires
put_in_column-requires c = (bit_cell c.requires c.column_of-c.ensures, c.requires.right)

pub returns : goal.returns
returns c = became_named c.args.on c.requires c.column_of-c.ensures c.put_in_column.ensures

pub shape_of-b : goal.shape_of-b
shape_of-b c = length_after c.requires.station (returns c)
