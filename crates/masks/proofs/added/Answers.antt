-- `masks::added` meets its contract: the disjunction with one bit sets that bit alone.
use Rattle.masks.specs.Adding.{one_added}
use Rattle.masks.proofs.added.Goals as goal

pub returns : goal.returns
returns c = one_added c.args.set c.args.s c.requires
