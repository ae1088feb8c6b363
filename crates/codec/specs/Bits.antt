-- Laws of the bits of a number: a number is its bits, and one bit of it set or cleared leaves the others.
use Rattle.std.specs.Prelude.{ℕ, zero, suc, ◌+◌, ◌-◌, ◌*◌, ◌/◌, ◌%◌, ◌^◌, ◌≤◌, ◌<◌, ◌≡◌, refl, Bool, true, false, cond, not, eqb, ltb}
use Rattle.std.proofs.Common.{not-suc-le-zero, mod-lt, mod-eq_of_lt, lt_of_lt_of_le, one-add, arith, sym, ◌∙◌, ap, subst, ⊎_elim, pow_pos, pow_mono, pow-add, shr-shr, eqb-true, ltb-true, ltb-false}
use Rattle.std.proofs.Math.Nat.{mul-add-div_right, zero-div, pow-succ'}
use Rattle.std.proofs.Math.Arith.{digits_div}
use Rattle.std.proofs.lemmas.Nat.{mod-pow-add}
use Rattle.std.proofs.lemmas.Bool.{eqb-false}
use Rattle.matrix.specs.Bounded.{any}
use Rattle.matrix.specs.Bytes.{bit, from_bits}
use Rattle.laws.specs.Tests.{way}
use Rattle.laws.specs.Bounded.{below_suc, any_none, none_any}

-- v with bit j set or cleared
unfoldable pub with_bit : ℕ → Bool → ℕ → ℕ
with_bit j on v = cond (bit j v) (cond on v (v - 2 ^ j)) (cond on (v + 2 ^ j) v)

-- the bits of a machine's word, and a one shifted left by less than those
abbrev pub word_bits : ℕ
word_bits = 64

pub one_shifted : (j : ℕ) → j < word_bits → 1 * 2 ^ j % 18446744073709551616 ≡ 2 ^ j
one_shifted j h = omega (arith, pow_mono {i = suc j} {j = word_bits} (omega arith), pow-succ' 2 j)

pub bit_zero : (j : ℕ) → bit j 0 ≡ false
unfolding bit
bit_zero j = rw (zero-div (2 ^ j)) refl

-- A number as a high part and j low digits. The low bits do not depend on the high part; bit j is the high part's lowest; the
-- bits above j are those of the high part's half.
pub bit_low : (i k hi lo : ℕ) → bit i (hi * 2 ^ (suc k + i) + lo) ≡ bit i lo
unfolding bit
bit_low i k hi lo = ap (λ (d : ℕ). eqb d 1) digit
  where
    digit : (hi * 2 ^ (suc k + i) + lo) / 2 ^ i % 2 ≡ lo / 2 ^ i % 2
    digit =
        let e : hi * 2 ^ (suc k + i) + lo ≡ hi * 2 ^ suc k * 2 ^ i + lo = rw (pow-add 2 (suc k) i) (omega arith) in
        let even : hi * 2 ^ suc k ≡ 2 * (hi * 2 ^ k) = rw (pow-succ' 2 k) (omega arith) in
        rw (e, mul-add-div_right (pow_pos i) (hi * 2 ^ suc k) lo) (omega arith)

pub bit_here : (j hi : ℕ) {lo : ℕ} → lo < 2 ^ j → bit j (hi * 2 ^ j + lo) ≡ eqb (hi % 2) 1
unfolding bit
bit_here j hi h = ap (λ (d : ℕ). eqb (d % 2) 1) (digits_div hi h)

pub bit_high : (j k hi : ℕ) {lo : ℕ} → lo < 2 ^ j → bit (j + suc k) (hi * 2 ^ j + lo) ≡ bit k (hi / 2)
unfolding bit
bit_high j k hi {lo} h = ap (λ (d : ℕ). eqb (d % 2) 1) halves
  where
    halves : (hi * 2 ^ j + lo) / 2 ^ (j + suc k) ≡ hi / 2 / 2 ^ k
    halves =
        sym (shr-shr (hi * 2 ^ j + lo) j (suc k)) ∙ ap (λ (d : ℕ). d / 2 ^ suc k) (digits_div hi h)
        ∙ ap (λ (e : ℕ). hi / 2 ^ e) (sym (one-add k)) ∙ sym (shr-shr hi 1 k)

-- high parts with one half give the same bits everywhere but at j
pub bit_other : (i j hi hi' : ℕ) {lo : ℕ} → lo < 2 ^ j → hi / 2 ≡ hi' / 2 → eqb i j ≡ false
    → bit i (hi * 2 ^ j + lo) ≡ bit i (hi' * 2 ^ j + lo)
bit_other i j hi hi' {lo} h e ne = ⊎_elim below above (way (ltb i j))
  where
    below : ltb i j ≡ true → bit i (hi * 2 ^ j + lo) ≡ bit i (hi' * 2 ^ j + lo)
    below l =
        let q : suc (j - suc i) + i ≡ j = omega (arith, ltb-true i j l) in
        let at : (x : ℕ) → bit i (x * 2 ^ j + lo) ≡ bit i lo =
        λ x. subst (λ (z : ℕ). bit i (x * 2 ^ z + lo) ≡ bit i lo) q (bit_low i (j - suc i) x lo) in
        at hi ∙ sym (at hi')

    above : ltb i j ≡ false → bit i (hi * 2 ^ j + lo) ≡ bit i (hi' * 2 ^ j + lo)
    above l =
        let q : j + suc (i - suc j) ≡ i = omega (arith, ltb-false i j l, eqb-false i j ne) in
        let at : (x : ℕ) → bit i (x * 2 ^ j + lo) ≡ bit (i - suc j) (x / 2) =
        λ x. subst (λ (z : ℕ). bit z (x * 2 ^ j + lo) ≡ bit (i - suc j) (x / 2)) q (bit_high j (i - suc j) x h) in
        at hi ∙ ap (bit (i - suc j)) e ∙ sym (at hi')

-- a power of two has one bit
pub bit_power : (i j : ℕ) → bit i (2 ^ j) ≡ eqb i j
bit_power i j = ap (bit i) one ∙ ⊎_elim here other (way (eqb i j))
  where
    one : 2 ^ j ≡ 1 * 2 ^ j + 0
    one = omega arith

    here : eqb i j ≡ true → bit i (1 * 2 ^ j + 0) ≡ eqb i j
    here e = rw e (ap (λ (k : ℕ). bit k (1 * 2 ^ j + 0)) (eqb-true i j e) ∙ bit_here j 1 (pow_pos j))

    other : eqb i j ≡ false → bit i (1 * 2 ^ j + 0) ≡ eqb i j
    other e =
        let z : 0 * 2 ^ j + 0 ≡ 0 = omega arith in
        rw e (bit_other i j 1 0 (pow_pos j) refl e ∙ ap (bit i) z ∙ bit_zero i)

-- the numbers that from_bits makes
pub from_bits_below : (m : ℕ) (f : ℕ → Bool) → from_bits m f < 2 ^ m
unfolding from_bits
from_bits_below zero f = omega arith
from_bits_below (suc m) f = more (f m) (from_bits_below m f)
  where
    more : (t : Bool) → from_bits m f < 2 ^ m → from_bits m f + cond t (2 ^ m) 0 < 2 ^ suc m
    more true h = omega arith
    more false h = omega arith

pub bit_from_bits : (m : ℕ) (f : ℕ → Bool) (j : ℕ) → j < m → bit j (from_bits m f) ≡ f j
unfolding from_bits
bit_from_bits zero f j h = absurd (not-suc-le-zero h)
bit_from_bits (suc m) f j h =
    ⊎_elim (λ l. lower l (bit_from_bits m f j l))
    (λ q. subst (λ (i : ℕ). bit i (from_bits m f + cond (f m) (2 ^ m) 0) ≡ f i) (sym q) (topmost (f m))) (below_suc j m h)
  where
    front : (t : Bool) → from_bits m f + cond t (2 ^ m) 0 ≡ cond t 1 0 * 2 ^ m + from_bits m f
    front true = omega arith
    front false = omega arith

    topmost : (t : Bool) → bit m (from_bits m f + cond t (2 ^ m) 0) ≡ t
    topmost t = rw (front t) (bit_here m (cond t 1 0) (from_bits_below m f) ∙ digit t)
      where
        digit : (t : Bool) → eqb (cond t 1 0 % 2) 1 ≡ t
        digit true = refl
        digit false = refl

    lower : j < m → bit j (from_bits m f) ≡ f j → bit j (from_bits m f + cond (f m) (2 ^ m) 0) ≡ f j
    lower l e =
        let q : suc (m - suc j) + j ≡ m = omega arith in
        rw (front (f m))
        (subst (λ (z : ℕ). bit j (cond (f m) 1 0 * 2 ^ z + from_bits m f) ≡ bit j (from_bits m f)) q
        (bit_low j (m - suc j) (cond (f m) 1 0) (from_bits m f)) ∙ e)

pub from_bits_same : (m : ℕ) (f g : ℕ → Bool) → ((j : ℕ) → j < m → f j ≡ g j) → from_bits m f ≡ from_bits m g
unfolding from_bits
from_bits_same zero f g h = refl
from_bits_same (suc m) f g h = rw (from_bits_same m f g (λ j l. h j (omega arith)), h m (omega arith)) refl

pub from_bits_mod : (m v : ℕ) → from_bits m (λ j. bit j v) ≡ v % 2 ^ m
unfolding from_bits bit
from_bits_mod zero v = omega arith
from_bits_mod (suc m) v =
    rw (from_bits_mod m v)
    (sym (ap (λ (e : ℕ). v % 2 ^ e) (sym (one-add m)) ∙ mod-pow-add v 1 m ∙ digit (v / 2 ^ m % 2) (mod-lt (v / 2 ^ m) (omega arith))))
  where
    digit : (d : ℕ) → d < 2 → d * 2 ^ m + v % 2 ^ m ≡ v % 2 ^ m + cond (eqb d 1) (2 ^ m) 0
    digit d h =
        ⊎_elim (λ (e : eqb d 1 ≡ true). let q : d ≡ 1 = eqb-true d 1 e in rw q (omega arith))
        (λ (e : eqb d 1 ≡ false). let q : d ≡ 0 = omega (arith, eqb-false d 1 e) in rw q (omega arith)) (way (eqb d 1))

-- a number of m bits is the one of its bits
pub from_bits_bit : (m v : ℕ) → v < 2 ^ m → from_bits m (λ j. bit j v) ≡ v
from_bits_bit m v h = from_bits_mod m v ∙ mod-eq_of_lt h

pub same_bits : (m u v : ℕ) → u < 2 ^ m → v < 2 ^ m → ((j : ℕ) → j < m → bit j u ≡ bit j v) → u ≡ v
same_bits m u v a b h = sym (from_bits_bit m u a) ∙ from_bits_same m (λ j. bit j u) (λ j. bit j v) h ∙ from_bits_bit m v b

-- a number of m bits has one set unless it is zero
pub any_bit : (m v : ℕ) → v < 2 ^ m → any m (λ j. bit j v) ≡ not (eqb v 0)
any_bit m v h =
    ⊎_elim
    (λ (e : eqb v 0 ≡ true). rw e (none_any m (λ j. bit j v) (λ j l. ap (bit j) (eqb-true v 0 e) ∙ bit_zero j)))
    (λ (e : eqb v 0 ≡ false). rw e (some e)) (way (eqb v 0))
  where
    some : eqb v 0 ≡ false → any m (λ j. bit j v) ≡ true
    some e =
        ⊎_elim (λ (t : any m (λ j. bit j v) ≡ true). t)
        (λ (n : any m (λ j. bit j v) ≡ false).
        absurd (eqb-false v 0 e (same_bits m v 0 h (pow_pos m) (λ j l. any_none m (λ j. bit j v) j n l ∙ sym (bit_zero j)))))
        (way (any m (λ j. bit j v)))

-- a number of m bits has none set from m on
pub bit_beyond : (m j v : ℕ) → v < 2 ^ m → m ≤ j → bit j v ≡ false
bit_beyond m j v h l = let e : v ≡ 0 * 2 ^ j + v = omega arith in ap (bit j) e ∙ bit_here j 0 (lt_of_lt_of_le h (pow_mono l))
