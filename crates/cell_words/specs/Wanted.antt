-- A record, and the shape that is wanted for it.
use Rattle.std.specs.Prelude.{ℕ, ◌+◌, ◌≡◌, true, false, List}
use Rattle.std.proofs.Common.{sym, ◌∙◌, ap, ap₂, subst}
use Rattle.matrix.specs.declared.Shape.{Shape}
use Rattle.matrix.specs.Shape.{known_version, columns, basics_of}
use Rattle.matrix.specs.Reading.{state_of}
use Rattle.matrix.specs.Shaped.{Within}
use Rattle.matrix.specs.Converting.{in_version, basic_from}
use Rattle.codec.specs.ShapeRight.{ShapeRight}
use Rattle.codec.specs.RoundTrip.{within_read}
use Rattle.codec.proofs.InVersion.{right_version, within_version}
use Rattle.cells.specs.Station.{Station, right_shape}

-- a record of shape f, and g that shape in a version that is read
pub record Wanted (b : List ℕ) (f g : Shape) : Type 0 where
  pub station : Station b f
  pub known : known_version g.version ≡ true
  pub shape : g ≡ in_version g.version f

-- the shape of a version that is asked for
pub wanted_in : {b : List ℕ} {f g : Shape} (v : ℕ) → Station b f → known_version v ≡ true → g ≡ in_version v f → Wanted b f g
wanted_in {f = f} v s known e =
    record {
      station = s;
      known = subst (λ (h : Shape). known_version h.version ≡ true) (sym e) known;
      shape = e ∙ ap (λ (u : ℕ). in_version u f) (sym (ap (λ (h : Shape). h.version) e));
    }

module _ {b : List ℕ} {f g : Shape} (h : Wanted b f g) where
  -- n and p are the record's
  pub same_n : g.n ≡ f.n
  same_n = ap (λ (e : Shape). e.n) h.shape

  pub same_p : g.p ≡ f.p
  same_p = ap (λ (e : Shape). e.p) h.shape

  pub same_columns : columns g ≡ columns f
  same_columns = ap₂ (λ (n p : ℕ). n + p) same_n same_p

  pub wanted_right : ShapeRight g
  wanted_right = subst ShapeRight (sym h.shape) (right_version g.version f h.known (right_shape h.station))

  -- where no right is set that g has no room for, the record's state is within g
  pub within_wanted : basic_from (basics_of g) f (state_of b) ≡ false → Within g (state_of b)
  within_wanted none =
      subst (λ (e : Shape). Within e (state_of b)) (sym h.shape)
      (within_version g.version f (state_of b) (subst (λ (e : Shape). Within e (state_of b)) (sym h.station.shape) (within_read b))
      (subst (λ (e : Shape). basic_from (basics_of e) f (state_of b) ≡ false) h.shape none))
