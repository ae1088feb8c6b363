-- `masks::lowest` meets its contract: trailing zeros stand below the lowest bit that is set.
use Rattle.masks.specs.Counts.{lowest_none, lowest_some}
use Rattle.masks.proofs.lowest.Goals as goal

pub returns-then-size-eq0 : goal.returns-then-size-eq0
returns-then-size-eq0 c = lowest_none _ c.size.ensures c.if-size-eq0.true

pub returns : goal.returns
returns c = lowest_some _ c.size.ensures c.if-size-eq0.false
