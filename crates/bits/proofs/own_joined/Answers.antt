-- `bits::own_joined` meets its contract.
use Rattle.bits.specs.OwnBytes.{joined_is}
use Rattle.bits.proofs.own_joined.Goals as goal

pub returns : goal.returns
returns c = joined_is c.args.width c.args.x c.args.y c.args.k _ c.last_byte.ensures
