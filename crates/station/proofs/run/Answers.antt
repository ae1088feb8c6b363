-- `station::run` meets its contract.
use Prim.Native.Nat.{ℕ}
use mathlib.Core.Path.{◌≡◌, sym, subst}
use mathlib.Core.List.{List}
use Rattle.std.proofs.lemmas.Result.{err_from_is_err_and}
use Rattle.laws.specs.Refusals.{some_number}
use Rattle.matrix.specs.Shape.{limits}
use Rattle.matrix.specs.Record.{record_refusal}
use Rattle.matrix.specs.Refusals.{outcome_of}
use Rattle.owners.proofs.Read.{valid_record}
use Rattle.cells.specs.Station.{station_at}
use Rattle.laws.specs.Numbers.{run_numbers_lem}
use Rattle.runs.specs.Reached.{RunOn}
use Rattle.station.specs.Done.{run_turned_down, run_kept, list_turned_down, list_kept, run_outcome, run_done}
use Rattle.station.proofs.run.Goals as goal
use Rattle.station.proofs.run.Goals.{In_ok-open_with}

pub returns-in_err-open_with : goal.returns-in_err-open_with
returns-in_err-open_with c =
    let p = err_from_is_err_and c.from_residual.result c.from_residual.ensures.1 in
    let n = c.in_err-open_with.ensures.opened.number in
    let e = run_turned_down _ n (some_number _) _ in
    rw (p.1, p.2) (record { answer = e; bytes = run_kept _ n (some_number _) _; numbers = run_numbers_lem _ _ e })

-- where the record is not turned down
right : (c : In_ok-open_with) → record_refusal limits c.args.b.now ≡ 0
right c = sym c.in_ok-open_with.ensures.opened.number

pub returns-in_default : goal.returns-in_default
returns-in_default c =
    let v = right (goal.at.returns-in_default c).In_ok-open_with in
    let e = list_turned_down _ _ v c.in_default.ensures in
    rw c.into.ensures (record { answer = e; bytes = list_kept _ _ v c.in_default.ensures; numbers = run_numbers_lem _ _ e })

pub valid_shape-f-requires : goal.valid_shape-f-requires
valid_shape-f-requires c = right (goal.at.valid_shape-f-requires c).In_ok-open_with

pub run_on-requires : goal.run_on-requires
run_on-requires c =
    record { station = station_at c.in_ok-open_with.ensures.opened.station c.valid_shape-f.ensures; valid = valid_record _ (right (goal.at.run_on-requires c).In_ok-open_with); size = c.open_with.ensures.table }

pub returns : goal.returns
returns c =
    let v = right (goal.at.returns c).In_ok-open_with in
    let l = c.in-Some.ensures in
    let w = subst (λ (l : List ℕ). RunOn c.args.b.now c.run_on.new.b l (outcome_of c.run_on.result)) l.1 c.run_on.ensures in
    let e = run_outcome _ _ v l.0 w in
    record { answer = e; bytes = run_done _ _ v l.0 w; numbers = run_numbers_lem _ _ e }
