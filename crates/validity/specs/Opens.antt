-- What opening a record answers: its shape where it is valid, and else the first of the refusals 1 to 5.
use Rattle.std.specs.Prelude.{ℕ, ◌≡◌, List, Result, Ok, Err, IfOk}
use Rattle.matrix.specs.declared.Refusal.{Refusal}
use Rattle.matrix.specs.declared.Shape.{Shape}
use Rattle.matrix.specs.Refusals.{number_of}
use Rattle.matrix.specs.Shape.{limits}
use Rattle.matrix.specs.Record.{record_refusal}
use Rattle.cells.specs.Station.{Station}

pub record Opens (b : List ℕ) (r : Result Shape Refusal) : Type 0 where
  pub number : number_of r ≡ record_refusal limits b
  pub station : IfOk r (Station b)
