-- Bytes with a header, and the size that they say.
use Rattle.std.specs.Prelude.{ℕ, ◌≤◌, ◌≡◌, List, length}
use Rattle.matrix.specs.declared.Shape.{Shape}
use Rattle.matrix.specs.Shape.{header_bytes, shape_of}
use Rattle.codec.specs.ShapeRight.{ShapeRight}

-- bytes with a header, with f the shape that they say, which passes the tests 2 and 3
pub record Headed (b : List ℕ) (f : Shape) : Type 0 where
  pub long : header_bytes ≤ length b
  pub shape : f ≡ shape_of b
  pub right : ShapeRight f
