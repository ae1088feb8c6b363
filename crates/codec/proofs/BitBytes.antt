-- A bit of a number stands in one of its bytes: it is read there, and stored there.
use Rattle.std.specs.Prelude.{ℕ, zero, suc, ◌+◌, ◌-◌, ◌*◌, ◌/◌, ◌%◌, ◌^◌, ◌≤◌, ◌<◌, ◌≡◌, refl, Bool, true, false, cond, List, eqb, ltb, get_or, set}
use Rattle.std.proofs.Common.{arith, sym, ◌∙◌, ap, ap₂, subst, ⊎_elim, pow-add, get_or-set_other, eqb-true, eq-eqb, ne_eqb, ltb-true, ltb-false}
use Rattle.std.proofs.Math.Arith.{digits_div, digits_mod, digits_lt}
use Rattle.matrix.specs.Bytes.{number_at, set_number, bit}
use Rattle.matrix.specs.Shaped.{Octets}
use Rattle.laws.specs.Tests.{way, same_test}
use Rattle.codec.specs.Bits.{with_bit, bit_low, same_bits}
use Rattle.codec.proofs.Bits.{with_bit_below, bit_with_bit}
use Rattle.codec.specs.Numbers.{number_at_below, set_same, number_stored, pow_bytes}
use Rattle.codec.specs.BitBytes.{byte_of, high_bit}

-- the bits of a number of a high part and a byte
low_bit : (j hi lo : ℕ) → j < 8 → bit j (hi * 256 + lo) ≡ bit j lo
low_bit j hi lo h =
    let e : suc (7 - j) + j ≡ 8 = omega arith in
    subst (λ (m : ℕ). bit j (hi * 2 ^ m + lo) ≡ bit j lo) e (bit_low j (7 - j) hi lo)

parts_bit : (i hi lo : ℕ) → lo < 256 → bit i (hi * 256 + lo) ≡ cond (ltb i 8) (bit i lo) (bit (i - 8) hi)
parts_bit i hi lo h =
    ⊎_elim (λ (t : ltb i 8 ≡ true). rw t (low_bit i hi lo (ltb-true i 8 t)))
    (λ (t : ltb i 8 ≡ false).
    let e : i ≡ 8 + (i - 8) = omega (arith, ltb-false i 8 t) in
    rw t (ap (λ (k : ℕ). bit k (hi * 256 + lo)) e ∙ high_bit (i - 8) hi lo h)) (way (ltb i 8))

-- and with one of them set or cleared
module _ (w hi lo : ℕ) (on : Bool) (h : hi < 256 ^ w) (l : lo < 256) where
  abbrev m : ℕ
  m = 8 * w + 8

  few : hi < 2 ^ (8 * w)
  few = rw (← pow_bytes w) h

  whole : (x y : ℕ) → x < 2 ^ (8 * w) → y < 256 → x * 256 + y < 2 ^ m
  whole x y a b = rw (pow-add 2 (8 * w) 8) (digits_lt a b)

  low_with : (j : ℕ) → j < 8 → with_bit j on (hi * 256 + lo) ≡ hi * 256 + with_bit j on lo
  low_with j b = same_bits m _ _ (with_bit_below m j on _ (omega arith) (whole hi lo few l)) (whole hi _ few below) each
    where
      below : with_bit j on lo < 256
      below = with_bit_below 8 j on lo b l

      each : (i : ℕ) → i < m → bit i (with_bit j on (hi * 256 + lo)) ≡ bit i (hi * 256 + with_bit j on lo)
      each i k =
          bit_with_bit i j on (hi * 256 + lo) ∙ ap (λ (t : Bool). cond (eqb i j) on t) (parts_bit i hi lo l)
          ∙ ⊎_elim (λ (t : ltb i 8 ≡ true). rw t (sym (bit_with_bit i j on lo)))
          (λ (t : ltb i 8 ≡ false). let ge = ltb-false i 8 t in rw (t, ne_eqb i j (λ e. omega arith)) refl) (way (ltb i 8))
          ∙ sym (parts_bit i hi (with_bit j on lo) below)

  high_with : (j : ℕ) → j < 8 * w → with_bit (8 + j) on (hi * 256 + lo) ≡ with_bit j on hi * 256 + lo
  high_with j b = same_bits m _ _ (with_bit_below m (8 + j) on _ (omega arith) (whole hi lo few l)) (whole _ lo (with_bit_below (8 * w) j on hi b few) l) each
    where
      each : (i : ℕ) → i < m → bit i (with_bit (8 + j) on (hi * 256 + lo)) ≡ bit i (with_bit j on hi * 256 + lo)
      each i k =
          bit_with_bit i (8 + j) on (hi * 256 + lo) ∙ ap (λ (t : Bool). cond (eqb i (8 + j)) on t) (parts_bit i hi lo l)
          ∙ ⊎_elim (λ (t : ltb i 8 ≡ true). let lt = ltb-true i 8 t in rw (t, ne_eqb i (8 + j) (λ e. omega arith)) refl)
          (λ (t : ltb i 8 ≡ false).
          let ge = ltb-false i 8 t in
          let same : eqb i (8 + j) ≡ eqb (i - 8) j =
          same_test _ _ (λ q. eq-eqb (i - 8) j (omega (arith, eqb-true i (8 + j) q))) (λ q. eq-eqb i (8 + j) (omega (arith, eqb-true (i - 8) j q))) in
          rw (t, same) (sym (bit_with_bit (i - 8) j on hi))) (way (ltb i 8))
          ∙ sym (parts_bit i (with_bit j on hi) lo l)

pub byte_bit : (b : List ℕ) (at w j : ℕ) → Octets b → j < 8 * w → bit j (number_at b at w) ≡ bit (j % 8) (get_or b (at + byte_of w j) 0)
unfolding number_at
byte_bit b at zero j o h = absurd (omega arith)
byte_bit b at (suc w) j o h = ⊎_elim last (λ t. front t (byte_bit b at w (j - 8) o (omega (arith, ltb-false j 8 t)))) (way (ltb j 8))
  where
    last : ltb j 8 ≡ true → bit j (number_at b at w * 256 + get_or b (at + w) 0) ≡ bit (j % 8) (get_or b (at + byte_of (suc w) j) 0)
    last t =
        let k : j < 8 = ltb-true j 8 t in
        let e : j ≡ j % 8 = omega arith in
        let p : at + w ≡ at + byte_of (suc w) j = omega arith in
        low_bit j (number_at b at w) (get_or b (at + w) 0) k ∙ ap₂ (λ (i x : ℕ). bit i (get_or b x 0)) e p

    front : ltb j 8 ≡ false → bit (j - 8) (number_at b at w) ≡ bit ((j - 8) % 8) (get_or b (at + byte_of w (j - 8)) 0)
        → bit j (number_at b at w * 256 + get_or b (at + w) 0) ≡ bit (j % 8) (get_or b (at + byte_of (suc w) j) 0)
    front t i =
        let k : 8 ≤ j = ltb-false j 8 t in
        let e : (j - 8) % 8 ≡ j % 8 = omega arith in
        let p : at + byte_of w (j - 8) ≡ at + byte_of (suc w) j = omega arith in
        parts_bit j (number_at b at w) (get_or b (at + w) 0) (o.octet (at + w)) ∙ rw t (i ∙ ap₂ (λ (i x : ℕ). bit i (get_or b x 0)) e p)

pub byte_stored : (b : List ℕ) (at w j : ℕ) (on : Bool) → Octets b → j < 8 * w
    → set_number b at w (with_bit j on (number_at b at w)) ≡ set b (at + byte_of w j) (with_bit (j % 8) on (get_or b (at + byte_of w j) 0))
unfolding number_at set_number
byte_stored b at zero j on o h = absurd (omega arith)
byte_stored b at (suc w) j on o h = ⊎_elim last (λ t. front t (byte_stored b at w (j - 8) on o (omega (arith, ltb-false j 8 t)))) (way (ltb j 8))
  where
    hi : ℕ
    hi = number_at b at w

    lo : ℕ
    lo = get_or b (at + w) 0

    stored : (x y v : ℕ) → y < 256 → v ≡ x * 256 + y → set (set_number b at w (v / 256)) (at + w) (v % 256) ≡ set (set_number b at w x) (at + w) y
    stored x y v l e =
        ap (λ (z : ℕ). set (set_number b at w (z / 256)) (at + w) (z % 256)) e
        ∙ ap₂ (λ (p q : ℕ). set (set_number b at w p) (at + w) q) (digits_div x l) (digits_mod x l)

    last : ltb j 8 ≡ true → set (set_number b at w (with_bit j on (hi * 256 + lo) / 256)) (at + w) (with_bit j on (hi * 256 + lo) % 256) ≡ set b (at + byte_of (suc w) j) (with_bit (j % 8) on (get_or b (at + byte_of (suc w) j) 0))
    last t =
        let k : j < 8 = ltb-true j 8 t in
        let e : j ≡ j % 8 = omega arith in
        let p : at + w ≡ at + byte_of (suc w) j = omega arith in
        stored hi (with_bit j on lo) _ (with_bit_below 8 j on lo k (o.octet (at + w))) (low_with w hi lo on (number_at_below b at w o) (o.octet (at + w)) j k)
        ∙ ap (λ (l : List ℕ). set l (at + w) (with_bit j on lo)) (number_stored b at w o)
        ∙ ap₂ (λ (i x : ℕ). set b x (with_bit i on (get_or b x 0))) e p

    front : ltb j 8 ≡ false → set_number b at w (with_bit (j - 8) on hi) ≡ set b (at + byte_of w (j - 8)) (with_bit ((j - 8) % 8) on (get_or b (at + byte_of w (j - 8)) 0))
        → set (set_number b at w (with_bit j on (hi * 256 + lo) / 256)) (at + w) (with_bit j on (hi * 256 + lo) % 256) ≡ set b (at + byte_of (suc w) j) (with_bit (j % 8) on (get_or b (at + byte_of (suc w) j) 0))
    front t i =
        let k : 8 ≤ j = ltb-false j 8 t in
        let d : j ≡ 8 + (j - 8) = omega arith in
        let e : (j - 8) % 8 ≡ j % 8 = omega arith in
        let p : at + byte_of w (j - 8) ≡ at + byte_of (suc w) j = omega arith in
        let u = with_bit ((j - 8) % 8) on (get_or b (at + byte_of w (j - 8)) 0) in
        let one = set b (at + byte_of w (j - 8)) u in
        let kept : lo ≡ get_or one (at + w) 0 = sym (get_or-set_other b (at + byte_of w (j - 8)) (at + w) u 0 (omega arith)) in
        stored (with_bit (j - 8) on hi) lo _ (o.octet (at + w))
        (ap (λ (x : ℕ). with_bit x on (hi * 256 + lo)) d ∙ high_with w hi lo on (number_at_below b at w o) (o.octet (at + w)) (j - 8) (omega arith))
        ∙ ap (λ (l : List ℕ). set l (at + w) lo) i ∙ ap (set one (at + w)) kept ∙ set_same one (at + w)
        ∙ ap₂ (λ (x y : ℕ). set b y (with_bit x on (get_or b y 0))) e p
