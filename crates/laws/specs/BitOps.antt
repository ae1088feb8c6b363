-- The bits of two numbers joined digit by digit, and a bit as a number.
use Rattle.std.specs.Prelude.{ℕ, zero, suc, ◌/◌, ◌%◌, ◌^◌, ◌<◌, ◌≡◌, refl, Bool, cond, ◌&&◌, ◌||◌}
use Rattle.std.proofs.Common.{arith, ◌∙◌, ⊎_elim, eqb-true}
use Rattle.std.proofs.Math.Path.{ap}
use Rattle.std.proofs.Math.Dec.{eqb}
use Rattle.std.specs.Int.Bits.{bit_and, bit_or}
use Rattle.std.proofs.lemmas.Nat.{and_shr, or_shr, and_mod, or_mod}
use Rattle.std.proofs.lemmas.Bool.{eqb-false}
use Rattle.matrix.specs.Bytes.{bit}
use Rattle.laws.specs.Tests.{way}

-- what holds of the four pairs of digits
two_digits : (P : ℕ → ℕ → Type 0) → P 0 0 → P 0 1 → P 1 0 → P 1 1 → (x y : ℕ) → x < 2 → y < 2 → P x y
two_digits P a b c d zero zero h l = a
two_digits P a b c d zero (suc zero) h l = b
two_digits P a b c d (suc zero) zero h l = c
two_digits P a b c d (suc zero) (suc zero) h l = d
two_digits P a b c d zero (suc (suc y)) h l = absurd (omega arith)
two_digits P a b c d (suc zero) (suc (suc y)) h l = absurd (omega arith)
two_digits P a b c d (suc (suc x)) y h l = absurd (omega arith)

-- a number made digit by digit has, at each place, what the test t makes of the two digits there
module _ (op : ℕ → ℕ → ℕ) (t : Bool → Bool → Bool) (shr : (a b k : ℕ) → op a b / 2 ^ k ≡ op (a / 2 ^ k) (b / 2 ^ k))
    (rest : (a b k : ℕ) → op a b % 2 ^ k ≡ op (a % 2 ^ k) (b % 2 ^ k))
    (digits : (x y : ℕ) → x < 2 → y < 2 → eqb (op x y) 1 ≡ t (eqb x 1) (eqb y 1)) where
  bit_joined : (k a b : ℕ) → bit k (op a b) ≡ t (bit k a) (bit k b)
  unfolding bit
  bit_joined k a b =
      ap (λ (x : ℕ). eqb (x % 2) 1) (shr a b k) ∙ ap (λ (x : ℕ). eqb x 1) (rest (a / 2 ^ k) (b / 2 ^ k) 1)
      ∙ digits (a / 2 ^ k % 2) (b / 2 ^ k % 2) (omega arith) (omega arith)

-- both of two numbers have the bit; one of them has
pub bit_and_lem : (k a b : ℕ) → bit k (bit_and a b) ≡ (bit k a && bit k b)
bit_and_lem = bit_joined bit_and (λ t u. t && u) and_shr and_mod (two_digits (λ x y. eqb (bit_and x y) 1 ≡ (eqb x 1 && eqb y 1)) refl refl refl refl)

pub bit_or_lem : (k a b : ℕ) → bit k (bit_or a b) ≡ (bit k a || bit k b)
bit_or_lem = bit_joined bit_or (λ t u. t || u) or_shr or_mod (two_digits (λ x y. eqb (bit_or x y) 1 ≡ (eqb x 1 || eqb y 1)) refl refl refl refl)

-- a bit, as the number that is counted
pub bit_count : (k v : ℕ) → v / 2 ^ k % 2 ≡ cond (bit k v) 1 0
unfolding bit
bit_count k v = ⊎_elim (λ h. rw h (eqb-true (v / 2 ^ k % 2) 1 h)) (λ h. rw h (zero_left (eqb-false (v / 2 ^ k % 2) 1 h))) (way (eqb (v / 2 ^ k % 2) 1))
  where
    zero_left : (v / 2 ^ k % 2 ≡ 1 → ⊥) → v / 2 ^ k % 2 ≡ 0
    zero_left ne = omega arith
