-- The bytes of a row that gains own: what the code stores is the cell with own, or the byte that stands there.
use Rattle.std.specs.Prelude.{ℕ, suc, ◌+◌, ◌-◌, ◌*◌, ◌/◌, ◌%◌, ◌≤◌, ◌<◌, max, ◌≡◌, refl, Bool, true, false, cond, ◌&&◌, ◌||◌, List, eqb, length, get_or}
use Rattle.std.proofs.Common.{div-one, arith, sym, ◌∙◌, ap, ap₂, subst, ⊎_elim, eqb-true, eq-eqb}
use Rattle.std.specs.Int.Bits.{bit_and, bit_or, and_zero_r, or_zero_r, or_step}
use Rattle.std.proofs.lemmas.Nat.{and_mask}
use Rattle.std.proofs.lemmas.Bool.{eqb-false}
use Rattle.matrix.specs.declared.Shape.{Shape}
use Rattle.matrix.specs.Numbers.{truth}
use Rattle.matrix.specs.Bytes.{bit}
use Rattle.matrix.specs.Shape.{columns, cell_place}
use Rattle.matrix.specs.Reading.{cell_at}
use Rattle.laws.specs.Tests.{way, same_test, and_left, and_right, and_both}
use Rattle.laws.specs.BitOps.{bit_count}
use Rattle.codec.specs.Bits.{with_bit}
use Rattle.codec.specs.ShapeRight.{TwoOrFour, most_bytes}
use Rattle.cells.specs.Station.{Station, right_shape}
use Rattle.cells.specs.Places.{row_bytes, low_place, place_small, place_below, low_bit}

-- 1 where byte k of a row is the last of its cell of w bytes, else 0
abbrev pub last_byte : ℕ → ℕ → ℕ
last_byte w k = truth (eqb (k % w) (w - 1))

-- the byte x at place k of a row, with own where the byte y has it and place k is that of a cell's last byte
abbrev pub own_joined : ℕ → ℕ → ℕ → ℕ → ℕ
own_joined w x y k = cond (eqb (k % w) (w - 1) && bit 0 y) (with_bit 0 true x) x

-- the digit that bit 0 is
odd_is : (x : ℕ) (t : Bool) → bit 0 x ≡ t → x % 2 ≡ cond t 1 0
odd_is x t h = ap (λ (m : ℕ). m % 2) (sym (div-one x)) ∙ bit_count 0 x ∙ ap (λ (u : Bool). cond u 1 0) h

or_own : (x : ℕ) → bit_or x 1 ≡ with_bit 0 true x
unfolding with_bit
or_own x = or_step x 1 ∙ ap (λ (m : ℕ). m * 2 + max (x % 2) 1) (or_zero_r (x / 2)) ∙ ⊎_elim set_bit clear_bit (way (bit 0 x))
  where
    set_bit : bit 0 x ≡ true → x / 2 * 2 + max (x % 2) 1 ≡ cond (bit 0 x) x (x + 1)
    set_bit t = let e = odd_is x true t in let q : x / 2 * 2 + 1 ≡ x = omega arith in rw t (ap (λ (d : ℕ). x / 2 * 2 + max d 1) e ∙ q)

    clear_bit : bit 0 x ≡ false → x / 2 * 2 + max (x % 2) 1 ≡ cond (bit 0 x) x (x + 1)
    clear_bit t = let e = odd_is x false t in let q : x / 2 * 2 + 1 ≡ x + 1 = omega arith in rw t (ap (λ (d : ℕ). x / 2 * 2 + max d 1) e ∙ q)

-- digits joined are tests joined
digit_is : (v : ℕ) → v < 2 → v ≡ truth (eqb v 1)
digit_is v h = ⊎_elim (λ (e : eqb v 1 ≡ true). rw e (eqb-true v 1 e)) (λ (e : eqb v 1 ≡ false). rw e (omega (arith, eqb-false v 1 e))) (way (eqb v 1))

digits_joined : (x y z : Bool) → bit_and (truth x) (bit_or (truth y) (truth z)) ≡ truth (x && (y || z))
digits_joined true true true = refl
digits_joined true true false = refl
digits_joined true false true = refl
digits_joined true false false = refl
digits_joined false y z = refl

-- the last byte of a cell of two bytes, or of four, as the code finds it
pub last_is : (w k : ℕ) → TwoOrFour w → bit_and (k % 2) (bit_or (k / 2 % 2) (truth (eqb w 2))) ≡ last_byte w k
last_is w k h =
    ap₂ (λ (x y : ℕ). bit_and x (bit_or y (truth (eqb w 2)))) (digit_is (k % 2) (omega arith)) (digit_is (k / 2 % 2) (omega arith))
    ∙ digits_joined odd upper (eqb w 2) ∙ ap truth (⊎_elim two four h)
  where
    odd : Bool
    odd = eqb (k % 2) 1

    upper : Bool
    upper = eqb (k / 2 % 2) 1

    both : (x y : Bool) → (x && (y || true)) ≡ x
    both true true = refl
    both true false = refl
    both false y = refl

    two : w ≡ 2 → (odd && (upper || eqb w 2)) ≡ eqb (k % w) (w - 1)
    two e = subst (λ (u : ℕ). (odd && (upper || eqb u 2)) ≡ eqb (k % u) (u - 1)) (sym e) (both odd upper)

    four : w ≡ 4 → (odd && (upper || eqb w 2)) ≡ eqb (k % w) (w - 1)
    four e =
        subst (λ (u : ℕ). (odd && (upper || eqb u 2)) ≡ eqb (k % u) (u - 1)) (sym e)
        (same_test _ _ (λ t. eq-eqb (k % 4) 3 (omega (arith, eqb-true (k % 2) 1 (and_left odd _ t), eqb-true (k / 2 % 2) 1 (either upper (and_right odd _ t)))))
        (λ t. let q : k % 4 ≡ 3 = eqb-true (k % 4) 3 t in and_both (eq-eqb (k % 2) 1 (omega arith)) (ap (λ (u : Bool). u || false) (eq-eqb (k / 2 % 2) 1 (omega arith)))))
      where
        either : (y : Bool) → (y || false) ≡ true → y ≡ true
        either true t = refl
        either false t = t

-- what the code stores
pub joined_is : (w x y k t : ℕ) → t ≡ last_byte w k → bit_or x (bit_and y t) ≡ own_joined w x y k
joined_is w x y k t e = rw e (⊎_elim last other (way (eqb (k % w) (w - 1))))
  where
    last : eqb (k % w) (w - 1) ≡ true → bit_or x (bit_and y (last_byte w k)) ≡ own_joined w x y k
    last d =
        ⊎_elim (λ (u : bit 0 y ≡ true). rw (d, u) (ap (bit_or x) (and_mask y 1 ∙ odd_is y true u) ∙ or_own x))
        (λ (u : bit 0 y ≡ false). rw (d, u) (ap (bit_or x) (and_mask y 1 ∙ odd_is y false u) ∙ or_zero_r x)) (way (bit 0 y))

    other : eqb (k % w) (w - 1) ≡ false → bit_or x (bit_and y (last_byte w k)) ≡ own_joined w x y k
    other d = rw d (ap (bit_or x) (and_zero_r y) ∙ or_zero_r x)

-- a row stands within the record, which is not long, and so does a byte of it
pub row_below : {b : List ℕ} {f : Shape} {r at : ℕ} → Station b f → r < f.n → at ≡ cell_place f r 0 → (at + row_bytes f ≤ length b) × (at + row_bytes f ≤ most_bytes)
row_below {b} {f} {r} {at} h row e =
    let g = right_shape h in
    let some : columns f ≡ suc (columns f - 1) = omega (arith, g.low) in
    let last : columns f - 1 < columns f = omega (arith, g.low) in
    let whole : cell_place f r (columns f - 1) + f.width ≡ at + row_bytes f = row_end f.first f.width (r * columns f) (columns f - 1) e some in
    (omega (arith, place_below b f h r (columns f - 1) row last), omega (arith, place_small f g r (columns f - 1) row last))
  where
    row_end : (a w x m : ℕ) {y : ℕ} → at ≡ a + w * (x + 0) → y ≡ suc m → a + w * (x + m) + w ≡ at + w * y
    row_end a w x m d q = rw q (omega arith)

pub byte_below : {b : List ℕ} {f : Shape} {r k at : ℕ} → Station b f → r < f.n → k < row_bytes f → at ≡ cell_place f r 0 → (at + k < length b) × (at + k ≤ most_bytes)
byte_below h row more e = (omega (arith, (row_below h row e).0), omega (arith, (row_below h row e).1))

-- where byte k of a row stands: before its cell's last byte, or at it; and its cell's column
module _ (w k : ℕ) (h : TwoOrFour w) where
  -- what holds for two bytes and for four
  each : (P : ℕ → Type 0) → P 2 → P 4 → P w
  each P two four = ⊎_elim (λ (e : w ≡ 2). subst P (sym e) two) (λ (e : w ≡ 4). subst P (sym e) four) h

  pub same_cell : (k % w ≡ w - 1 → ⊥) → k / w ≡ (k + 1) / w
  same_cell = each (λ u. (k % u ≡ u - 1 → ⊥) → k / u ≡ (k + 1) / u) (λ n. omega arith) (λ n. omega arith)

  pub next_cell : k % w ≡ w - 1 → k / w + 1 ≡ (k + 1) / w
  next_cell = each (λ u. k % u ≡ u - 1 → k / u + 1 ≡ (k + 1) / u) (λ e. omega arith) (λ e. omega arith)

  pub last_place : (a x : ℕ) → k % w ≡ w - 1 → a + w * (x + 0) + k ≡ a + w * (x + k / w) + (w - 1)
  last_place a x = each (λ u. k % u ≡ u - 1 → a + u * (x + 0) + k ≡ a + u * (x + k / u) + (u - 1)) (λ e. omega arith) (λ e. omega arith)

  pub column_below : (m : ℕ) → k < w * m → k / w < m
  column_below m = each (λ u. k < u * m → k / u < m) (λ l. omega arith) (λ l. omega arith)

  pub columns_passed : (m : ℕ) → k ≡ w * m → k / w ≡ m
  columns_passed m = each (λ u. k ≡ u * m → k / u ≡ m) (λ l. omega arith) (λ l. omega arith)

module _ {b : List ℕ} {f : Shape} (h : Station b f) (r c : ℕ) where
  abbrev low : ℕ
  low = get_or b (low_place f r c) 0

  -- own stands in the last byte
  pub own_read : bit 0 (cell_at b r c) ≡ bit 0 low
  own_read = low_bit b f h 0 r c (omega arith)
