-- Where the cells of a record stand, in numbers: what the code computes is what the definitions say. That a cell has two bytes or four is known
-- here, where they are read and stored.
use Rattle.std.specs.Prelude.{ℕ, suc, ◌+◌, ◌-◌, ◌*◌, ◌%◌, ◌^◌, ◌≤◌, ◌<◌, ◌≡◌, Bool, List, length, get_or, set}
use Rattle.std.proofs.Common.{le_trans, mul-le-mul, mul-le-mul_right, arith, sym, ◌∙◌, subst, ⊎_elim}
use Rattle.std.proofs.Math.Path.{ap}
use Rattle.matrix.specs.declared.Shape.{Shape}
use Rattle.matrix.specs.Bytes.{number_at, set_number, bit}
use Rattle.matrix.specs.Shape.{most_subjects, most_plain, bits_of, columns, cell_place, size_of}
use Rattle.matrix.specs.Reading.{cell_at, set_cell}
use Rattle.codec.specs.Bits.{with_bit, bit_low}
use Rattle.codec.specs.BitBytes.{byte_of}
use Rattle.codec.proofs.BitBytes.{byte_bit, byte_stored}
use Rattle.codec.specs.ShapeRight.{ShapeRight, most_width, most_bytes}
use Rattle.codec.proofs.ShapeRight.{two_or_four, width_some, size_most}
use Rattle.codec.specs.Cells.{place_inside}
use Rattle.cells.specs.Station.{Station, right_shape}

-- the bytes of a row, and the place of a cell's lowest byte, which is its last
abbrev pub row_bytes : Shape → ℕ
row_bytes f = f.width * columns f

abbrev pub low_place : Shape → ℕ → ℕ → ℕ
low_place f r c = cell_place f r c + (f.width - 1)

-- the place of the byte that has bit j of a cell
abbrev pub bit_place : Shape → ℕ → ℕ → ℕ → ℕ
bit_place f r c j = cell_place f r c + byte_of f.width j

-- bits 0 to 7 of a number are those of its lowest byte
low_byte : (j high low : ℕ) → j < 8 → bit j (high * 256 + low) ≡ bit j low
low_byte j high low h =
    let e : suc (7 - j) + j ≡ 8 = omega arith in
    subst (λ (m : ℕ). bit j (high * 2 ^ m + low) ≡ bit j low) e (bit_low j (7 - j) high low)

-- a cell that has not two bytes has four
pub not_two : {b : List ℕ} {f : Shape} → Station b f → (f.width ≡ 2 → ⊥) → f.width ≡ 4
not_two {f = f} h ne = ⊎_elim (λ (e : f.width ≡ 2). absurd (ne e)) (λ (e : f.width ≡ 4). e) (two_or_four f (right_shape h))

-- the numbers that the code computes on its way to a cell of a right shape, and those of the next row, are small
module _ (f : Shape) (g : ShapeRight f) where
  pub row_small : row_bytes f ≤ most_bytes
  row_small = less (mul-le-mul g.width_most columns_most)
    where
      columns_most : f.n + f.p ≤ most_subjects + most_plain
      columns_most = omega arith

      less : {x : ℕ} → x ≤ most_width * (most_subjects + most_plain) → x ≤ most_bytes
      less h = omega arith

  pub place_small : (r c : ℕ) → r < f.n → c < columns f → cell_place f r c + f.width ≤ most_bytes
  place_small r c hr hc = le_trans (place_inside f r c hr hc) (size_most f g)

  pub index_small : (r c : ℕ) → r < f.n → c < columns f → r * columns f + c ≤ most_bytes
  index_small r c hr hc = at_most f.width (r * columns f + c) (width_some f g) (place_small r c hr hc)
    where
      at_most : (w x : ℕ) → 1 ≤ w → f.first + w * x + f.width ≤ most_bytes → x ≤ most_bytes
      at_most w x h l = omega (arith, mul-le-mul_right x h)

module _ (b : List ℕ) (f : Shape) (h : Station b f) where
  -- a cell stands within the record
  pub place_below : (r c : ℕ) → r < f.n → c < columns f → cell_place f r c + f.width ≤ length b
  place_below r c hr hc = subst (λ (m : ℕ). cell_place f r c + f.width ≤ m) size (place_inside f r c hr hc)
    where
      size : size_of f ≡ length b
      size = ap size_of h.shape ∙ sym h.shaped.size

  -- and is the number there
  cell_number : (r c : ℕ) → cell_at b r c ≡ number_at b (cell_place f r c) f.width
  unfolding cell_at
  cell_number r c = ap (λ (e : Shape). number_at b (cell_place e r c) e.width) (sym h.shape)

  -- bits 0 to 7 of a cell are those of its lowest byte
  pub low_bit : (j r c : ℕ) → j < 8 → bit j (cell_at b r c) ≡ bit j (get_or b (low_place f r c) 0)
  low_bit j r c l = ap (bit j) (cell_number r c ∙ ap (number_at b (cell_place f r c)) more) ∙ last (cell_place f r c) (f.width - 1)
    where
      more : f.width ≡ suc (f.width - 1)
      more = omega (arith, width_some f (right_shape h))

      last : (at w : ℕ) → bit j (number_at b at (suc w)) ≡ bit j (get_or b (at + w) 0)
      last at w = unfold number_at in low_byte j (number_at b at w) (get_or b (at + w) 0) l

  store_number : (r c v : ℕ) → set_cell b r c v ≡ set_number b (cell_place f r c) f.width v
  unfolding set_cell
  store_number r c v = ap (λ (e : Shape). set_number b (cell_place e r c) e.width v) (sym h.shape)

  -- a bit of a cell is read in its byte, which stands within the record, and stored there
  pub bit_below : (r c j : ℕ) → r < f.n → c < columns f → j < bits_of f → bit_place f r c j < length b
  bit_below r c j hr hc l = omega (arith, place_below r c hr hc, (right_shape h).width_least)

  pub bit_there : (r c j : ℕ) → j < bits_of f → bit j (cell_at b r c) ≡ bit (j % 8) (get_or b (bit_place f r c j) 0)
  bit_there r c j l = ap (bit j) (cell_number r c) ∙ byte_bit b (cell_place f r c) f.width j h.octets l

  pub bit_stored : (r c j : ℕ) (on : Bool) → j < bits_of f
      → set_cell b r c (with_bit j on (cell_at b r c)) ≡ set b (bit_place f r c j) (with_bit (j % 8) on (get_or b (bit_place f r c j) 0))
  bit_stored r c j on l =
      store_number r c (with_bit j on (cell_at b r c)) ∙ ap (λ (v : ℕ). set_number b (cell_place f r c) f.width (with_bit j on v)) (cell_number r c)
      ∙ byte_stored b (cell_place f r c) f.width j on h.octets l

  -- a cell of w bytes read and stored
  pub cell_read : (r c : ℕ) {w : ℕ} → f.width ≡ w → number_at b (cell_place f r c) w ≡ cell_at b r c
  cell_read r c e = sym (cell_number r c ∙ ap (number_at b (cell_place f r c)) e)

  pub cell_stored : (r c v : ℕ) {w : ℕ} → f.width ≡ w → set_number b (cell_place f r c) w v ≡ set_cell b r c v
  cell_stored r c v e = sym (store_number r c v ∙ ap (λ (w : ℕ). set_number b (cell_place f r c) w v) e)
