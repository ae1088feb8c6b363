-- `writing::put_head` meets its contract.
use Rattle.writing.specs.Put.{put_head}
use Rattle.writing.proofs.put_head.Goals as goal

pub returns : goal.returns
unfolding put_head
returns c = c.put_four.ensures
