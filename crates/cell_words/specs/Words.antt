-- A cell's bytes as a word whose first byte is the lowest, beside the cell's number, whose first byte is the highest.
use Rattle.std.specs.Prelude.{ℕ, ◌+◌, ◌*◌, ◌/◌, ◌%◌, ◌≤◌, ◌<◌, ◌≡◌, List, [], ◌∷◌, get_or}
use Rattle.std.proofs.Common.{mod-eq_of_lt, arith, sym, ◌∙◌, ap, ap₂, ⊎_elim}
use Rattle.std.proofs.Math.Nat.{div-div-eq-div-mul}
use Rattle.std.proofs.Math.Arith.{digits_div, digits_mod}
use Rattle.std.specs.Int.{w16, w32, to_be_bytes, to_le_bytes}
use Rattle.matrix.specs.Bytes.{number_at}
use Rattle.matrix.specs.Shaped.{Octets}
use Rattle.codec.specs.ShapeRight.{TwoOrFour}
use Rattle.codec.specs.Numbers.{two_read, four_read}

-- a cell's bytes are two or more, and four where they are not two
pub two_least : {w : ℕ} → TwoOrFour w → 2 ≤ w
two_least {w} h = ⊎_elim (λ (e : w ≡ 2). omega arith) (λ (e : w ≡ 4). omega arith) h

pub not_two : {w : ℕ} → TwoOrFour w → (w ≡ 2 → ⊥) → w ≡ 4
not_two {w} h ne = ⊎_elim (λ (e : w ≡ 2). absurd (ne e)) (λ (e : w ≡ 4). e) h

-- v and m have the same four bytes, in v from the lowest on and in m from the highest on
pub record Turned (v m : ℕ) : Type 0 where
  pub p : ℕ
  pub q : ℕ
  pub x : ℕ
  pub y : ℕ
  pub p_byte : p < 256
  pub q_byte : q < 256
  pub x_byte : x < 256
  pub y_byte : y < 256
  pub word : v ≡ p + q * 256 + x * 65536 + y * 16777216
  pub number : m ≡ (p * 256 + q) * 65536 + (x * 256 + y)

-- ---- read

module _ (b : List ℕ) (o : Octets b) (at : ℕ) where
  pub turned_two : Turned ((get_or b at 0 + get_or b (at + 1) 0 * 256) * 65536) (number_at b at 2)
  turned_two =
      record {
        p = 0;
        q = 0;
        x = get_or b at 0;
        y = get_or b (at + 1) 0;
        p_byte = omega arith;
        q_byte = omega arith;
        x_byte = o.octet at;
        y_byte = o.octet (at + 1);
        word = omega arith;
        number = two_read b at ∙ omega arith;
      }

  pub turned_four : Turned (get_or b at 0 + get_or b (at + 1) 0 * 256 + get_or b (at + 2) 0 * 65536 + get_or b (at + 3) 0 * 16777216) (number_at b at 4)
  turned_four =
      record {
        p = get_or b at 0;
        q = get_or b (at + 1) 0;
        x = get_or b (at + 2) 0;
        y = get_or b (at + 3) 0;
        p_byte = o.octet at;
        q_byte = o.octet (at + 1);
        x_byte = o.octet (at + 2);
        y_byte = o.octet (at + 3);
        word = omega arith;
        number = four_read b at ∙ ap₂ (λ (h l : ℕ). h * 65536 + l) (two_read b at) (two_read b (at + 2) ∙ ap (λ (i : ℕ). get_or b (at + 2) 0 * 256 + get_or b i 0) (omega arith));
      }

-- ---- the bytes of both

-- a number's lower and upper half, of two bytes each
abbrev Halves : ℕ → ℕ → ℕ → Type 0
Halves k lo hi = (k % 65536 ≡ lo) × (k / 65536 % 65536 ≡ hi)

halves : (k lo hi : ℕ) → lo < 65536 → hi < 65536 → k ≡ hi * 65536 + lo → Halves k lo hi
halves k lo hi a b e = (ap (λ (i : ℕ). i % 65536) e ∙ digits_mod hi a, ap (λ (i : ℕ). i % 65536) (ap (λ (i : ℕ). i / 65536) e ∙ digits_div hi a) ∙ mod-eq_of_lt b)

two : (lo hi : ℕ) → lo < 256 → hi < 256 → hi * 256 + lo < 65536
two lo hi a b = omega arith

-- a number's lowest two bytes
low_bytes : (k lo hi : ℕ) → lo < 256 → hi < 256 → k % 65536 ≡ hi * 256 + lo → (k % 256 ≡ lo) × (k / 256 % 256 ≡ hi)
low_bytes k lo hi a b e = (omega arith, omega arith)

module _ (v m : ℕ) (t : Turned v m) where
  word_halves : Halves v (t.q * 256 + t.p) (t.y * 256 + t.x)
  word_halves =
      halves v (t.q * 256 + t.p) (t.y * 256 + t.x) (two t.p t.q t.p_byte t.q_byte) (two t.x t.y t.x_byte t.y_byte) (omega (arith, t.word))

  number_halves : Halves m (t.x * 256 + t.y) (t.p * 256 + t.q)
  number_halves =
      halves m (t.x * 256 + t.y) (t.p * 256 + t.q) (two t.y t.x t.y_byte t.x_byte) (two t.q t.p t.q_byte t.p_byte) t.number

  -- each byte of the word is one of the number
  first_two : (v % 256 ≡ m / 65536 / 256 % 256) × (v / 256 % 256 ≡ m / 65536 % 256)
  first_two =
      let w = low_bytes v t.p t.q t.p_byte t.q_byte word_halves.0 in
      let n = low_bytes (m / 65536) t.q t.p t.q_byte t.p_byte number_halves.1 in
      (w.0 ∙ sym n.1, w.1 ∙ sym n.0)

  last_two : (v / 65536 % 256 ≡ m / 256 % 256) × (v / 16777216 % 256 ≡ m % 256)
  last_two =
      let w = low_bytes (v / 65536) t.x t.y t.x_byte t.y_byte word_halves.1 in
      let n = low_bytes m t.y t.x t.y_byte t.x_byte number_halves.0 in
      (w.0 ∙ sym n.1, ap (λ (k : ℕ). k % 256) (sym (div-div-eq-div-mul v 65536 256)) ∙ w.1 ∙ sym n.0)

  -- the lower half of the word is the upper half of the number
  pub lower_clear : v % 65536 ≡ 0 → m < 65536
  lower_clear h = below t.p t.q (sym word_halves.0 ∙ h) t.number
    where
      below : (p q : ℕ) → q * 256 + p ≡ 0 → m ≡ (p * 256 + q) * 65536 + (t.x * 256 + t.y) → m < 65536
      below p q e d = omega (arith, two t.y t.x t.y_byte t.x_byte)

  pub upper_clear : m < 65536 → v % 65536 ≡ 0
  upper_clear h = word_halves.0 ∙ none t.p t.q t.number
    where
      none : (p q : ℕ) → m ≡ (p * 256 + q) * 65536 + (t.x * 256 + t.y) → q * 256 + p ≡ 0
      none p q d = omega arith

  -- ---- stored

  -- the bytes of the upper half of the word are those of the lower half of the number
  pub two_turned : (v / 65536 % 256 ∷ v / 16777216 % 256 ∷ []) ≡ to_be_bytes w16 m
  two_turned = ap₂ (λ (x y : ℕ). x ∷ y ∷ []) last_two.0 last_two.1

  -- and all are those of the number
  pub four_turned : to_le_bytes w32 v ≡ to_be_bytes w32 m
  four_turned =
      let high : m / 65536 / 256 ≡ m / 16777216 = div-div-eq-div-mul m 65536 256 in
      ap₂ (λ (x y : ℕ). x ∷ y ∷ v / 65536 % 256 ∷ v / 16777216 % 256 ∷ []) (first_two.0 ∙ ap (λ (k : ℕ). k % 256) high) first_two.1
      ∙ ap₂ (λ (x y : ℕ). m / 16777216 % 256 ∷ m / 65536 % 256 ∷ x ∷ y ∷ []) last_two.0 last_two.1
