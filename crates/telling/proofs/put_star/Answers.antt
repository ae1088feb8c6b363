-- `telling::put_star` meets its contract.
use Rattle.telling.specs.Tells.{tells_as, tells_then}
use Rattle.telling.specs.Parts.{star_is}
use Rattle.telling.proofs.put_star.Goals as goal

pub returns : goal.returns
returns c = tells_as (star_is c.args.t.x c.args.t.y c.args.absent c.creates.ensures c.passes_right.ensures) (tells_then c.put_if-j.ensures c.put.ensures)
