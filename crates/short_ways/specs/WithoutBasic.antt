-- What the short ways that use no basic right ask.
use Rattle.std.specs.Prelude.{ℕ, ◌≡◌, true, List}
use Rattle.matrix.specs.declared.Fields.{Fields}
use Rattle.matrix.specs.declared.Shape.{Shape}
use Rattle.matrix.specs.Reading.{state_of}
use Rattle.matrix.specs.Calls.{names_fit}
use Rattle.matrix.specs.Valid.{Valid}
use Rattle.cells.specs.Station.{Station}

-- a command on names of a valid record that names no basic right
pub record WithoutBasic (b : List ℕ) (f : Shape) (c : Fields) : Type 0 where
  pub station : Station b f
  pub valid : Valid (state_of b)
  pub names : names_fit f c ≡ true
  pub none : c.k ≡ 0
