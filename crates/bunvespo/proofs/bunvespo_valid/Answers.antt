-- `bunvespo::bunvespo_valid` meets its contract.
use mathlib.Core.Path.{sym, ◌∙◌, ap}
use Rattle.matrix.specs.Numbers.{truth}
use Rattle.laws.specs.Numbers.{digit}
use Rattle.bunvespo.proofs.bunvespo_valid.Goals as goal

pub returns : goal.returns
returns c = c.from.ensures ∙ sym (digit c.valid.result) ∙ ap truth c.valid.ensures
