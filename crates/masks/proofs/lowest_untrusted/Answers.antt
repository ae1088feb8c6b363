-- `masks::lowest_untrusted` meets its contract.
use Rattle.masks.specs.Untrusted.{lowest_free}
use Rattle.masks.proofs.lowest_untrusted.Goals as goal

pub returns : goal.returns
returns c = lowest_free c.requires c.existing-all.ensures c.untrusted.ensures c.lowest.ensures
