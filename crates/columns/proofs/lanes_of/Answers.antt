-- `columns::lanes_of` meets its contract.
use Rattle.columns.specs.Cells.{lanes_of}
use Rattle.columns.proofs.lanes_of.Goals as goal

pub returns : goal.returns
unfolding lanes_of
returns g c = cc
