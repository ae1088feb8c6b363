-- `validity::open_with` meets its contract.
use Rattle.std.proofs.lemmas.Result.{err_from_is_err_and}
use Rattle.cells.specs.Station.{station_at}
use Rattle.opening.specs.Opened.{station_long}
use Rattle.validity.proofs.open_with.Goals as goal

pub returns-in_err-check : goal.returns-in_err-check
returns-in_err-check c =
    let p = err_from_is_err_and c.from_residual.result c.from_residual.ensures.1 in
    rw (p.1, p.2) (record { opened = record { number = c.in_err-check.ensures.number; station = tt }; table = c.check.ensures.table })

pub shape-requires : goal.shape-requires
shape-requires c = station_long c.in_ok-check.ensures.station

pub returns : goal.returns
returns c =
    record {
      opened = record { number = c.in_ok-check.ensures.number; station = station_at c.in_ok-check.ensures.station c.shape.ensures };
      table = c.check.ensures.table;
    }
