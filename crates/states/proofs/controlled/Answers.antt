-- `states::controlled` meets its contract.
use mathlib.Core.Path.{◌∙◌}
use Rattle.states.specs.Reads.{some_other}
use Rattle.states.proofs.controlled.Goals as goal

pub returns : goal.returns
returns c = c.some_row.ensures ∙ some_other _ _ c.requires.0 _ c.requires.1
