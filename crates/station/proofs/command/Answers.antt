-- `station::command` meets its contract.
use mathlib.Core.Path.{◌≡◌, refl, sym}
use Rattle.std.proofs.lemmas.Result.{err_from_is_err_and}
use Rattle.laws.specs.Refusals.{some_number}
use Rattle.matrix.specs.Shape.{limits, shape_of}
use Rattle.matrix.specs.Record.{record_refusal}
use Rattle.owners.proofs.Read.{valid_record}
use Rattle.cells.specs.Station.{Station, station_at}
use Rattle.laws.specs.Numbers.{command_numbers_lem}
use Rattle.station.specs.Done.{command_turned_down, command_kept, command_reply, command_done}
use Rattle.station.proofs.command.Goals as goal
use Rattle.station.proofs.command.Goals.{In_ok-open_with}

pub returns-in_err-open_with : goal.returns-in_err-open_with
returns-in_err-open_with c =
    let p = err_from_is_err_and c.from_residual.result c.from_residual.ensures.1 in
    let n = c.in_err-open_with.ensures.opened.number in
    let e = command_turned_down _ n (some_number _) _ in
    rw (p.1, p.2) (record { answer = e; bytes = command_kept _ n (some_number _) _; numbers = command_numbers_lem _ _ e })

-- where the record is not turned down
right : (c : In_ok-open_with) → record_refusal limits c.args.b.now ≡ 0
right c = sym c.in_ok-open_with.ensures.opened.number

opened : (c : In_ok-open_with) → Station c.args.b.now (shape_of c.args.b.now)
opened c = station_at c.in_ok-open_with.ensures.opened.station refl

pub command_on-requires : goal.command_on-requires
command_on-requires c =
    let g = goal.at.command_on-requires c in
    record { station = opened g.In_ok-open_with; valid = valid_record _ (right g.In_ok-open_with); size = c.open_with.ensures.table }

pub returns : goal.returns
returns c =
    let g = goal.at.returns c in
    let e = command_reply (right g.In_ok-open_with) (opened g.In_ok-open_with) c.command_on.ensures.answer in
    record {
      answer = e;
      bytes = command_done (right g.In_ok-open_with) (opened g.In_ok-open_with) c.command_on.ensures.answer;
      numbers = command_numbers_lem _ _ e;
    }
