-- `bunvespo::bunvespo_held` meets its contract.
use mathlib.Core.Path.{sym, ◌∙◌, ap}
use Rattle.matrix.specs.Numbers.{numbers, held_numbers}
use Rattle.laws.specs.Numbers.{digit, said}
use Rattle.bunvespo.proofs.bunvespo_held.Goals as goal

pub returns-in-Ok : goal.returns-in-Ok
returns-in-Ok c =
    let t = c.in-Ok.held in
    c.value.ensures ∙ ap (numbers 0) (c.from.ensures ∙ sym (digit t)) ∙ sym (said t) ∙ ap held_numbers c.in-Ok.ensures.answer

pub returns-in-Err : goal.returns-in-Err
returns-in-Err c = c.refused.ensures ∙ ap held_numbers c.in-Err.ensures.answer
