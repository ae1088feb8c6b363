-- `station::held` meets its contract.
use mathlib.Core.Path.{sym, ◌∙◌}
use Rattle.std.proofs.lemmas.Result.{err_from_is_err_and}
use Rattle.laws.specs.Refusals.{some_number}
use Rattle.holding.specs.Asked.{held_answer_lem}
use Rattle.laws.specs.Numbers.{held_numbers_lem}
use Rattle.station.specs.Done.{held_turned_down}
use Rattle.station.proofs.held.Goals as goal

pub returns-in_err-f : goal.returns-in_err-f
returns-in_err-f c =
    let p = err_from_is_err_and c.from_residual.result c.from_residual.ensures.1 in
    let e = held_turned_down _ c.in_err-f.ensures.number (some_number _) _ _ _ in
    rw (p.1, p.2) (record { answer = e; numbers = held_numbers_lem _ _ _ _ e })

pub held_on-requires : goal.held_on-requires
held_on-requires c = c.in_ok-f.ensures.station

pub returns : goal.returns
returns c =
    let e = c.held_on.ensures ∙ held_answer_lem _ _ _ _ (sym c.in_ok-f.ensures.number) in
    record { answer = e; numbers = held_numbers_lem _ _ _ _ e }
