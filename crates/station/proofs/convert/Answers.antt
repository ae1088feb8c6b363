-- `station::convert` meets its contract.
use mathlib.Core.Path.{sym}
use Rattle.std.proofs.lemmas.Result.{err_from_is_err_and}
use Rattle.laws.specs.Refusals.{some_number}
use Rattle.station.specs.Done.{convert_turned_down}
use Rattle.station.proofs.convert.Goals as goal

pub returns-in_err-f : goal.returns-in_err-f
returns-in_err-f c =
    let p = err_from_is_err_and c.from_residual.result c.from_residual.ensures.1 in
    let r = convert_turned_down _ c.in_err-f.ensures.number (some_number _) _ _ in
    rw (p.1, p.2) (record { result = r.0; output = r.1 })

pub convert-requires : goal.convert-requires
convert-requires c = (c.in_ok-f.ensures.station, sym c.in_ok-f.ensures.number, c.requires)
