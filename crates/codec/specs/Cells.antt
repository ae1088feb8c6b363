-- Laws of a record's cells: their places, and what a stored cell leaves as it was.
use Rattle.std.specs.Prelude.{ℕ, suc, ◌+◌, ◌*◌, ◌/◌, ◌%◌, ◌^◌, ◌≤◌, ◌<◌, ◌≡◌, List, length, get_or}
use Rattle.std.proofs.Common.{mul-le-mul_left, mul-suc, arith, sym, ◌∙◌, ap}
use Rattle.std.proofs.Math.Nat.{lt_of_mul-lt-mul_left}
use Rattle.std.proofs.Math.Path.{refl}
use Rattle.std.proofs.Math.Arith.{digits_lt, digits_div, digits_mod}
use Rattle.matrix.specs.declared.Shape.{Shape}
use Rattle.matrix.specs.Bytes.{number_at}
use Rattle.matrix.specs.Shape.{shape_of, header_bytes, bits_of, columns, cell_place, size_of}
use Rattle.matrix.specs.Reading.{cell_at, set_cell}
use Rattle.matrix.specs.Shaped.{Shaped, Octets}
use Rattle.codec.specs.Numbers.{length_set_number, get_or_set_number_other, number_at_set_other, octets_set_number, number_at_below, pow_bytes}

-- ---- the places of the cells of a shape
-- a cell ends within the record
pub place_inside : (f : Shape) (r c : ℕ) → r < f.n → c < columns f → cell_place f r c + f.width ≤ size_of f
place_inside f r c h l =
    let m : f.width * suc (r * columns f + c) ≤ f.width * (f.n * columns f) = mul-le-mul_left f.width (digits_lt h l) in
    let e : f.width * suc (r * columns f + c) ≡ f.width * (r * columns f + c) + f.width = mul-suc f.width (r * columns f + c) in
    place f.first (f.width * (r * columns f + c)) f.width (f.width * (f.n * columns f)) (rw e at m)
  where
    place : (a x w y : ℕ) → x + w ≤ y → a + x + w ≤ a + y
    place a x w y h = omega arith

-- the cells of two rows or columns have no byte in common
pub place_apart : (f : Shape) (r c w d : ℕ) → c < columns f → d < columns f → (r ≡ w → c ≡ d → ⊥)
    → cell_place f r c < cell_place f w d + f.width → cell_place f w d < cell_place f r c + f.width → ⊥
place_apart f r c w d h l ne a b = ne row column
  where
    k : ℕ
    k = r * columns f + c

    i : ℕ
    i = w * columns f + d

    -- a cell that begins before the other's end is not after it
    before : (x y : ℕ) → f.first + f.width * x < f.first + f.width * y + f.width → x < suc y
    before x y z = lt_of_mul-lt-mul_left f.width (rw (mul-suc f.width y) (less f.first (f.width * x) (f.width * y) f.width z))
      where
        less : (e m n o : ℕ) → e + m < e + n + o → m < n + o
        less e m n o h = omega arith

    same : k ≡ i
    same = let p : k < suc i = before k i a in let q : i < suc k = before i k b in omega arith

    row : r ≡ w
    row = sym (digits_div r h) ∙ ap (λ (x : ℕ). x / columns f) same ∙ digits_div w l

    column : c ≡ d
    column = sym (digits_mod r h) ∙ ap (λ (x : ℕ). x % columns f) same ∙ digits_mod w l

-- a cell is after the header
pub cell_after : (b : List ℕ) (r c : ℕ) → header_bytes ≤ cell_place (shape_of b) r c
unfolding shape_of
cell_after b r c = omega arith

-- ---- storing a cell
module _ (b : List ℕ) (r c v : ℕ) where
  pub length_set_cell : length (set_cell b r c v) ≡ length b
  unfolding set_cell
  length_set_cell = length_set_number b (cell_place (shape_of b) r c) (shape_of b).width v

  -- the bytes before the first cell stay
  pub header_set : (i : ℕ) → i < header_bytes → get_or (set_cell b r c v) i 0 ≡ get_or b i 0
  unfolding set_cell
  header_set i h = get_or_set_number_other b (cell_place (shape_of b) r c) (shape_of b).width v i (λ l u. omega (arith, cell_after b r c))

  pub shape_set : shape_of (set_cell b r c v) ≡ shape_of b
  unfolding shape_of
  shape_set = rw (header_set 0 (omega arith), header_set 5 (omega arith), header_set 6 (omega arith)) refl

  pub count_set : number_at (set_cell b r c v) 1 4 ≡ number_at b 1 4
  unfolding set_cell
  count_set = number_at_set_other b (cell_place (shape_of b) r c) (shape_of b).width v 1 4 (λ l u. omega (arith, cell_after b r c))

  pub shaped_set : Shaped b → Shaped (set_cell b r c v)
  shaped_set s =
      record {
        version = rw shape_set s.version;
        low = rw shape_set s.low;
        high = rw shape_set s.high;
        plain = rw shape_set s.plain;
        count = rw shape_set (count_set ∙ s.count);
        size = rw shape_set (length_set_cell ∙ s.size);
      }

  pub octets_set : Octets b → Octets (set_cell b r c v)
  unfolding set_cell
  octets_set o = octets_set_number b (cell_place (shape_of b) r c) (shape_of b).width v o

-- ---- the cells of a record
-- a cell is within the bytes
pub cell_inside : (b : List ℕ) (r c : ℕ) → Shaped b → r < (shape_of b).n → c < columns (shape_of b)
    → cell_place (shape_of b) r c + (shape_of b).width ≤ length b
cell_inside b r c s h l = rw s.size (place_inside (shape_of b) r c h l)

pub cell_below : (b : List ℕ) (r c : ℕ) → Octets b → cell_at b r c < 2 ^ bits_of (shape_of b)
unfolding cell_at
cell_below b r c o = rw (← pow_bytes (shape_of b).width) (number_at_below b (cell_place (shape_of b) r c) (shape_of b).width o)

pub cell_set_other : (b : List ℕ) (r c v w d : ℕ) → c < columns (shape_of b) → d < columns (shape_of b) → (r ≡ w → c ≡ d → ⊥)
    → cell_at (set_cell b r c v) w d ≡ cell_at b w d
unfolding cell_at
cell_set_other b r c v w d h l ne = rw (shape_set b r c v) kept
  where
    kept : number_at (set_cell b r c v) (cell_place (shape_of b) w d) (shape_of b).width ≡ number_at b (cell_place (shape_of b) w d) (shape_of b).width
    kept =
        unfold set_cell in
        number_at_set_other b (cell_place (shape_of b) r c) (shape_of b).width v (cell_place (shape_of b) w d) (shape_of b).width
        (place_apart (shape_of b) r c w d h l ne)
