-- `masks::outside` meets its contract.
use Rattle.masks.specs.Adding.{all_below, left_outside}
use Rattle.masks.proofs.outside.Goals as goal

pub returns : goal.returns
returns c = left_outside (all_below c.args.bound c.requires) c.untrusted.ensures
