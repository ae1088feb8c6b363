-- `validity::surely_valid` meets its contract.
use Rattle.cells.specs.Station.{right_shape}
use Rattle.validity.proofs.surely_valid.Goals as goal

pub few_columns-requires : goal.few_columns-requires
few_columns-requires c = right_shape c.requires
