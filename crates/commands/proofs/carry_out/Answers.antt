-- `commands::carry_out` meets its contract.
use native.Mathlib.Nat.{lt_of_lt_of_le}
use Rattle.laws.specs.Refusals.{some_number}
use Rattle.cells.specs.Station.{right_shape}
use Rattle.commands.specs.Carrying.{carried_refused, carried_accepted}
use Rattle.commands.proofs.carry_out.Goals as goal
