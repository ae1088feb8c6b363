-- `bunvespo::bunvespo_run` meets its contract.
use mathlib.Core.Path.{◌∙◌, ap}
use Rattle.matrix.specs.Numbers.{run_numbers}
use Rattle.laws.specs.Refusals.{run_numbers_of}
use Rattle.bunvespo.proofs.bunvespo_run.Goals as goal

pub returns-clause-numbers : goal.returns-clause-numbers
returns-clause-numbers c = c.into.ensures ∙ run_numbers_of c.run.result ∙ ap run_numbers c.run.ensures.answer
