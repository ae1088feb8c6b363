-- `telling::put_finish` meets its contract: the parts of the definition one after another.
use Rattle.telling.specs.Tells.{tells_as, tells_then}
use Rattle.telling.specs.Parts.{finish_is}
use Rattle.telling.proofs.put_finish.Goals as goal

pub returns : goal.returns
returns c =
    tells_as (finish_is c.args.t.x c.args.t.y c.args.absent c.args.again c.column_of-o.ensures c.destroys.ensures c.creates.ensures c.creates-2.ensures c.gives.ensures)
    (tells_then (tells_then c.put_if-j.ensures c.put_if-j-2.ensures) (tells_then c.put_if-j-3.ensures c.put.ensures))
