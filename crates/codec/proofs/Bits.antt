-- Laws of the bits of a number: a number is its bits, and one bit of it set or cleared leaves the others.
use Rattle.std.specs.Prelude.{ℕ, suc, ◌+◌, ◌-◌, ◌*◌, ◌/◌, ◌%◌, ◌^◌, ◌<◌, ◌≡◌, Bool, true, false, cond, eqb}
use Rattle.std.proofs.Common.{mod-lt, arith, sym, ◌∙◌, ap, subst, ⊎_elim, pow_pos, pow-add, shr_lt, eqb-true, eq-eqb, ne_eqb}
use Rattle.std.proofs.Math.Nat.{pow-succ'}
use Rattle.std.proofs.Math.Arith.{digits_lt}
use Rattle.std.proofs.Math.Pow.{split}
use Rattle.std.proofs.lemmas.Bool.{eqb-false}
use Rattle.matrix.specs.Bytes.{bit}
use Rattle.laws.specs.Tests.{way}
use Rattle.codec.specs.Bits.{bit_here, bit_other, with_bit}

-- with_bit by digits: the high part's lowest digit becomes 1 or 0
with_bit_digits : (j : ℕ) (on : Bool) (v : ℕ) → with_bit j on v ≡ (v / 2 ^ j / 2 * 2 + cond on 1 0) * 2 ^ j + v % 2 ^ j
unfolding with_bit bit
with_bit_digits j on v = ⊎_elim set_bit clear_bit (way (eqb (v / 2 ^ j % 2) 1))
  where
    lo : ℕ
    lo = v % 2 ^ j

    half : ℕ
    half = v / 2 ^ j / 2

    parts : (d : ℕ) → v / 2 ^ j % 2 ≡ d → v ≡ (half * 2 + d) * 2 ^ j + lo
    parts d h = let e : half * 2 + d ≡ v / 2 ^ j = omega arith in rw e (sym (split v j))

    set_bit : eqb (v / 2 ^ j % 2) 1 ≡ true → with_bit j on v ≡ (half * 2 + cond on 1 0) * 2 ^ j + lo
    set_bit t = rw t (by on (parts 1 (eqb-true (v / 2 ^ j % 2) 1 t)))
      where
        by : (on : Bool) → v ≡ (half * 2 + 1) * 2 ^ j + lo → cond on v (v - 2 ^ j) ≡ (half * 2 + cond on 1 0) * 2 ^ j + lo
        by true e = e
        by false e = omega arith

    clear_bit : eqb (v / 2 ^ j % 2) 1 ≡ false → with_bit j on v ≡ (half * 2 + cond on 1 0) * 2 ^ j + lo
    clear_bit t = rw t (by on (parts 0 (omega (arith, eqb-false (v / 2 ^ j % 2) 1 t))))
      where
        by : (on : Bool) → v ≡ (half * 2 + 0) * 2 ^ j + lo → cond on (v + 2 ^ j) v ≡ (half * 2 + cond on 1 0) * 2 ^ j + lo
        by true e = omega arith
        by false e = e

-- the bits of a number with one of them set or cleared
pub bit_with_bit : (i j : ℕ) (on : Bool) (v : ℕ) → bit i (with_bit j on v) ≡ cond (eqb i j) on (bit i v)
bit_with_bit i j on v = ap (bit i) (with_bit_digits j on v) ∙ ⊎_elim here other (way (eqb i j))
  where
    hi : ℕ
    hi = v / 2 ^ j / 2 * 2 + cond on 1 0

    lo_below : v % 2 ^ j < 2 ^ j
    lo_below = mod-lt v (pow_pos j)

    half : (t : Bool) → (v / 2 ^ j / 2 * 2 + cond t 1 0) / 2 ≡ v / 2 ^ j / 2
    half true = omega arith
    half false = omega arith

    digit : (t : Bool) → eqb ((v / 2 ^ j / 2 * 2 + cond t 1 0) % 2) 1 ≡ t
    digit true = eq-eqb ((v / 2 ^ j / 2 * 2 + 1) % 2) 1 (omega arith)
    digit false = ne_eqb ((v / 2 ^ j / 2 * 2 + 0) % 2) 1 (omega arith)

    here : eqb i j ≡ true → bit i (hi * 2 ^ j + v % 2 ^ j) ≡ cond (eqb i j) on (bit i v)
    here e = rw e (ap (λ (k : ℕ). bit k (hi * 2 ^ j + v % 2 ^ j)) (eqb-true i j e) ∙ bit_here j hi lo_below ∙ digit on)

    other : eqb i j ≡ false → bit i (hi * 2 ^ j + v % 2 ^ j) ≡ cond (eqb i j) on (bit i v)
    other e = rw e (bit_other i j hi (v / 2 ^ j) lo_below (half on) e ∙ ap (bit i) (split v j))

pub with_bit_below : (m j : ℕ) (on : Bool) (v : ℕ) → j < m → v < 2 ^ m → with_bit j on v < 2 ^ m
with_bit_below m j on v h b =
    let q : suc (m - suc j) + j ≡ m = omega arith in
    subst (λ (k : ℕ). with_bit j on v < 2 ^ k) q (wide (m - suc j) (rw q b))
  where
    wide : (k : ℕ) → v < 2 ^ (suc k + j) → with_bit j on v < 2 ^ (suc k + j)
    wide k l =
        rw (with_bit_digits j on v, pow-add 2 (suc k) j)
        (digits_lt (high on (shr_lt (suc k) j l)) (mod-lt v (pow_pos j)))
      where
        high : (t : Bool) → v / 2 ^ j < 2 ^ suc k → v / 2 ^ j / 2 * 2 + cond t 1 0 < 2 ^ suc k
        high true l = omega (arith, pow-succ' 2 k)
        high false l = omega (arith, pow-succ' 2 k)
