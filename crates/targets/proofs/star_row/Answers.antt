-- `targets::star_row` meets its contract.
use Rattle.targets.specs.Passing.{star_none, star_found}
use Rattle.targets.proofs.star_row.Goals as goal

pub returns-then-has_bit : goal.returns-then-has_bit
returns-then-has_bit c = star_found c.loop-v.invariant c.in-Some.ensures.steps.0 c.has_bit.ensures c.if-has_bit.true

pub returns : goal.returns
returns c = star_none c.loop-v.invariant c.in-None.ensures.steps
