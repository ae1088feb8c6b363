-- The bits of a complement and of a half.
use Rattle.std.specs.Prelude.{ℕ, suc, ◌+◌, ◌-◌, ◌*◌, ◌/◌, ◌%◌, ◌^◌, ◌≤◌, ◌<◌, ◌≡◌, true, false, not, eqb, ltb}
use Rattle.std.proofs.Common.{mod-lt, add-mul, lt_of_le_of_lt, sub-le, one-add, arith, sym, ◌∙◌, ap, ap₂, subst, ⊎_elim, pow_pos, shr-shr, shr_lt, eqb-true, eq-eqb, ne_eqb, ltb-true, ltb-false}
use Rattle.std.proofs.Math.Nat.{pow-succ', div-eq_of_lt}
use Rattle.std.proofs.Math.Pow.{split, ones_lt, le_ones, ones_split}
use Rattle.std.proofs.lemmas.Bool.{eqb-false}
use Rattle.matrix.specs.Bytes.{bit}
use Rattle.laws.specs.Tests.{way}
use Rattle.codec.specs.Bits.{bit_here}

-- the bits of a half are the bits above the lowest
pub bit_half : (j v : ℕ) → bit (suc j) v ≡ bit j (v / 2)
unfolding bit
bit_half j v = ap (λ (d : ℕ). eqb (d % 2) 1) (ap (λ (e : ℕ). v / 2 ^ e) (sym (one-add j)) ∙ sym (shr-shr v 1 j))

-- two numbers whose sum is odd: one of them is odd, the other even
odd_sum : (x y w : ℕ) → x + y ≡ 2 * w + 1 → eqb (x % 2) 1 ≡ not (eqb (y % 2) 1)
odd_sum x y w e =
    ⊎_elim (λ (t : eqb (y % 2) 1 ≡ true). let o : y % 2 ≡ 1 = eqb-true (y % 2) 1 t in rw t (ne_eqb (x % 2) 1 (λ z. omega arith)))
    (λ (t : eqb (y % 2) 1 ≡ false). rw t (eq-eqb (x % 2) 1 (omega (arith, eqb-false (y % 2) 1 t)))) (way (eqb (y % 2) 1))

-- digits are taken from digits that are not lower
digits_less : (a hi r lo q : ℕ) → hi ≤ a → lo ≤ r → a * q + r - (hi * q + lo) ≡ (a - hi) * q + (r - lo)
digits_less a hi r lo q h l =
    let e : a - hi + hi ≡ a = omega arith in
    let f : a * q ≡ (a - hi) * q + hi * q = ap (λ (x : ℕ). x * q) (sym e) ∙ add-mul (a - hi) hi q in
    omega arith

bit_not_wide : (k j v : ℕ) → v < 2 ^ (suc k + j) → bit j (2 ^ (suc k + j) - 1 - v) ≡ not (bit j v)
unfolding bit
bit_not_wide k j v h =
    ap (bit j) digits ∙ bit_here j (2 ^ suc k - 1 - v / 2 ^ j) (lt_of_le_of_lt (sub-le (2 ^ j - 1) (v % 2 ^ j)) (ones_lt j))
    ∙ odd_sum (2 ^ suc k - 1 - v / 2 ^ j) (v / 2 ^ j) (2 ^ k - 1) (omega (arith, pow-succ' 2 k, pow_pos k, high_fits))
  where
    high_fits : v / 2 ^ j ≤ 2 ^ suc k - 1
    high_fits = le_ones (suc k) (shr_lt (suc k) j h)

    low_fits : v % 2 ^ j ≤ 2 ^ j - 1
    low_fits = le_ones j (mod-lt v (pow_pos j))

    digits : 2 ^ (suc k + j) - 1 - v ≡ (2 ^ suc k - 1 - v / 2 ^ j) * 2 ^ j + (2 ^ j - 1 - v % 2 ^ j)
    digits =
        ap₂ (λ (x y : ℕ). x - y) (ones_split (suc k) j) (sym (split v j))
        ∙ digits_less (2 ^ suc k - 1) (v / 2 ^ j) (2 ^ j - 1) (v % 2 ^ j) (2 ^ j) high_fits low_fits

-- a complement of m digits has the other bits
pub bit_not : (m j v : ℕ) → v < 2 ^ m → j < m → bit j (2 ^ m - 1 - v) ≡ not (bit j v)
bit_not m j v h l =
    let q : suc (m - suc j) + j ≡ m = omega arith in
    subst (λ (k : ℕ). bit j (2 ^ k - 1 - v) ≡ not (bit j v)) q (bit_not_wide (m - suc j) j v (rw q h))

-- nothing is left above n digits where the number has no more
pub fits_shifted : (n v : ℕ) → eqb (v / 2 ^ n) 0 ≡ ltb v (2 ^ n)
fits_shifted n v =
    ⊎_elim (λ (t : ltb v (2 ^ n) ≡ true). rw t (eq-eqb (v / 2 ^ n) 0 (div-eq_of_lt (ltb-true v (2 ^ n) t))))
    (λ (t : ltb v (2 ^ n) ≡ false). rw t (ne_eqb (v / 2 ^ n) 0 (over (ltb-false v (2 ^ n) t)))) (way (ltb v (2 ^ n)))
  where
    over : 2 ^ n ≤ v → v / 2 ^ n ≡ 0 → ⊥
    over l e =
        let s : 0 * 2 ^ n + v % 2 ^ n ≡ v = rw e at (split v n) in
        omega (arith, mod-lt v (pow_pos n))
