-- `telling::put` meets its contract.
use Rattle.telling.specs.Tells.{tells_one}
use Rattle.telling.proofs.put.Goals as goal

pub returns : goal.returns
returns c = tells_one c.put_command.ensures
