-- `bunvespo::bunvespo_safety` meets its contract.
use mathlib.Core.Path.{refl}
use Rattle.bunvespo.specs.Laws.{answers_numbers, few_found, found_numbers}
use Rattle.bunvespo.proofs.bunvespo_safety.Goals as goal

pub one_more-requires : goal.one_more-requires
one_more-requires c = few_found c.in-Ok.found c.in-Ok.ensures (record { octet = λ j. (c.type_inv.b j).fits })

pub returns-in-Ok : goal.returns-in-Ok
returns-in-Ok c = rw (c.value.ensures, c.one_more.ensures) (found_numbers c.in-Ok.found c.in-Ok.ensures)

pub returns-in-Err : goal.returns-in-Err
returns-in-Err c = rw c.refused.ensures (answers_numbers c.in-Err.ensures refl)
