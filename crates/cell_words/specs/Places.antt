-- The cells of a record by their number, row after row: how many there are, and where each stands.
use Rattle.std.specs.Prelude.{ℕ, ◌+◌, ◌*◌, ◌/◌, ◌%◌, ◌≤◌, ◌<◌, ◌≡◌, List, length}
use Rattle.std.proofs.Common.{le_trans, mod-lt, div-add-mod', div-lt_iff_lt-mul, mul-suc, mul-le-mul_left, mul-le-mul_right, arith, sym, ◌∙◌, subst}
use Rattle.std.proofs.Math.Path.{ap}
use Rattle.matrix.specs.declared.Shape.{Shape}
use Rattle.matrix.specs.Bytes.{number_at, set_number}
use Rattle.matrix.specs.Shape.{columns, cell_place, size_of}
use Rattle.matrix.specs.Reading.{cell_at, set_cell}
use Rattle.codec.specs.ShapeRight.{ShapeRight, most_bytes}
use Rattle.codec.proofs.ShapeRight.{width_some, size_most}
use Rattle.cells.specs.Station.{Station, right_shape}

-- the number of the cells, and the place of the one numbered k
abbrev pub cells_of : Shape → ℕ
cells_of f = f.n * columns f

abbrev pub place_of : Shape → ℕ → ℕ
place_of f k = f.first + f.width * k

pub cells_most : (f : Shape) → ShapeRight f → cells_of f ≤ most_bytes
cells_most f g = fewer f.first f.width (cells_of f) (width_some f g) (size_most f g)
  where
    fewer : (a w x : ℕ) → 1 ≤ w → a + w * x ≤ most_bytes → x ≤ most_bytes
    fewer a w x h l = omega (arith, mul-le-mul_right x h)

-- the next cell is a cell's bytes further
pub next_place : (f : Shape) (k : ℕ) {at : ℕ} → at ≡ place_of f k → at + f.width ≡ place_of f (k + 1)
next_place f k e = rw e (further f.first f.width)
  where
    further : (a w : ℕ) → a + w * k + w ≡ a + w * (k + 1)
    further a w = omega arith

-- it has a row and a column
module _ (f : Shape) (g : ShapeRight f) (k : ℕ) (l : k < cells_of f) where
  pub column_of : k % columns f < columns f
  column_of = mod-lt k (omega (arith, g.low))

  pub row_of : k / columns f < f.n
  row_of = (div-lt_iff_lt-mul {k = columns f} (omega (arith, g.low))).1 l

  pub number_of : k / columns f * columns f + k % columns f ≡ k
  number_of = div-add-mod' k (columns f)

module _ {b : List ℕ} {f : Shape} (s : Station b f) where
  -- it stands within the record
  pub cell_inside : (k : ℕ) {at : ℕ} → k < cells_of f → at ≡ place_of f k → (at + f.width ≤ length b) × (at + f.width ≤ most_bytes)
  cell_inside k {at} l e = (subst (λ (x : ℕ). at + f.width ≤ x) (ap size_of s.shape ∙ sym s.shaped.size) inside, le_trans inside (size_most f (right_shape s)))
    where
      ends : (a x w y : ℕ) → at ≡ a + x → x + w ≤ y → at + w ≤ a + y
      ends a x w y d m = omega arith

      inside : at + f.width ≤ size_of f
      inside = ends f.first (f.width * k) f.width (f.width * cells_of f) e (rw (mul-suc f.width k) at (mul-le-mul_left f.width l))

  -- what stands there is the cell
  pub cell_numbered : (r c : ℕ) {k : ℕ} → r * columns f + c ≡ k → number_at b (place_of f k) f.width ≡ cell_at b r c
  unfolding cell_at
  cell_numbered r c e = ap (λ (i : ℕ). number_at b (place_of f i) f.width) (sym e) ∙ ap (λ (m : Shape). number_at b (cell_place m r c) m.width) s.shape

  pub store_numbered : (r c v : ℕ) {k : ℕ} → r * columns f + c ≡ k → set_number b (place_of f k) f.width v ≡ set_cell b r c v
  unfolding set_cell
  store_numbered r c v e = ap (λ (i : ℕ). set_number b (place_of f i) f.width v) (sym e) ∙ ap (λ (m : Shape). set_number b (cell_place m r c) m.width v) s.shape
