-- What the functions on a record's cells ask of their caller.
use Rattle.std.specs.Prelude.{ℕ, ◌<◌, ◌≡◌, List}
use Rattle.std.proofs.Common.{sym, subst}
use Rattle.matrix.specs.declared.Shape.{Shape}
use Rattle.matrix.specs.Shape.{shape_of, columns}
use Rattle.matrix.specs.Shaped.{Shaped, Octets}
use Rattle.codec.specs.ShapeRight.{ShapeRight}
use Rattle.codec.proofs.RoundTrip.{shape_right}

-- bytes of the right form, with f the shape that they say
pub record Station (b : List ℕ) (f : Shape) : Type 0 where
  pub shaped : Shaped b
  pub octets : Octets b
  pub shape : f ≡ shape_of b

-- a cell of those
pub record Cell (b : List ℕ) (f : Shape) (r c : ℕ) : Type 0 where
  pub station : Station b f
  pub row : r < f.n
  pub column : c < columns f

-- the shape as another value says it
pub station_at : {b : List ℕ} {e f : Shape} → Station b e → f ≡ shape_of b → Station b f
station_at h q = record { shaped = h.shaped; octets = h.octets; shape = q }

-- the shape is one that records have
pub right_shape : {b : List ℕ} {f : Shape} → Station b f → ShapeRight f
right_shape {b} h = subst ShapeRight (sym h.shape) (shape_right b h.shaped)
