-- `columns::last_lane` meets its contract.
use Rattle.columns.specs.Cells.{last_lane}
use Rattle.columns.proofs.last_lane.Goals as goal

pub returns : goal.returns
unfolding last_lane
returns g c = cc
