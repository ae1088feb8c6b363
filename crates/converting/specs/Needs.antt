-- What the functions ask of their caller: that the wanted shape has room for the record, and how far the cells are copied.
use Rattle.std.specs.Prelude.{ℕ, ◌+◌, ◌*◌, ◌<◌, ◌≡◌, false, List}
use Rattle.matrix.specs.declared.Shape.{Shape}
use Rattle.matrix.specs.Shape.{columns, basics_of}
use Rattle.matrix.specs.Reading.{cell_at, state_of}
use Rattle.matrix.specs.Converting.{basic_from}
use Rattle.cells.specs.Station.{Station}
use Rattle.cell_words.specs.Wanted.{Wanted}

-- no basic right is set in the record that g has no room for
pub record Fits (b : List ℕ) (f g : Shape) : Type 0 where
  pub wanted : Wanted b f g
  pub none : basic_from (basics_of g) f (state_of b) ≡ false

-- bytes of shape g whose first k cells, row after row, are the record's
pub record Copied (b : List ℕ) (g : Shape) (out : List ℕ) (k : ℕ) : Type 0 where
  pub station : Station out g
  pub cells : (r c : ℕ) → c < columns g → r * columns g + c < k → cell_at out r c ≡ cell_at b r c
