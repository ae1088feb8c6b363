-- `bunvespo::bunvespo_command` meets its contract.
use mathlib.Core.Path.{◌∙◌, ap}
use Rattle.matrix.specs.Numbers.{command_numbers}
use Rattle.laws.specs.Refusals.{command_numbers_of}
use Rattle.bunvespo.proofs.bunvespo_command.Goals as goal

pub returns-clause-numbers : goal.returns-clause-numbers
returns-clause-numbers c = c.into.ensures ∙ command_numbers_of c.command.result ∙ ap command_numbers c.command.ensures.answer
