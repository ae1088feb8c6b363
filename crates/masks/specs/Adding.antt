-- A set that a subject is added to, and the set of all subjects that a set leaves out.
use Rattle.std.specs.Prelude.{ℕ, ◌-◌, ◌*◌, ◌%◌, ◌^◌, ◌<◌, ◌≡◌, Bool, true, false, not, ◌&&◌, ◌||◌, ltb}
use Rattle.std.proofs.Common.{arith, sym, ◌∙◌, ap, ⊎_elim, pow_pos, ltb-true, ltb-false}
use Rattle.std.proofs.Math.Pow.{ones_lt}
use Rattle.std.specs.Int.Bits.{bit_or}
use Rattle.matrix.specs.Bytes.{bit}
use Rattle.laws.specs.Tests.{way}
use Rattle.laws.specs.BitOps.{bit_or_lem}
use Rattle.codec.specs.Bits.{one_shifted, bit_power, bit_zero, bit_beyond}
use Rattle.masks.specs.Marks.{mask_bits, Added, LeftOut, Outside}
use Rattle.masks.specs.Digits.{bit_not}

pub one_added : (set s : ℕ) → s < mask_bits → Added set s (bit_or set (1 * 2 ^ s % 18446744073709551616))
one_added set s l =
    record { marks = λ j. bit_or_lem j set (1 * 2 ^ s % 18446744073709551616) ∙ ap (λ (t : Bool). bit j set || t) (ap (bit j) (one_shifted s l) ∙ bit_power j s) }

-- the subjects below n, as a set, and what is left of them
pub all_below : (n : ℕ) → n < mask_bits → (j : ℕ) → bit j (1 * 2 ^ n % 18446744073709551616 - 1) ≡ ltb j n
all_below n l j =
    ap (λ (v : ℕ). bit j (v - 1)) (one_shifted n l)
    ∙ ⊎_elim
    (λ (t : ltb j n ≡ true). let e : 2 ^ n - 1 ≡ 2 ^ n - 1 - 0 = omega arith in ap (bit j) e ∙ bit_not n j 0 (pow_pos n) (ltb-true j n t) ∙ ap not (bit_zero j) ∙ sym t)
    (λ (t : ltb j n ≡ false). bit_beyond n j (2 ^ n - 1) (ones_lt n) (ltb-false j n t) ∙ sym t) (way (ltb j n))

pub left_outside : {n set all r : ℕ} → ((j : ℕ) → bit j all ≡ ltb j n) → LeftOut all set r → Outside set n r
left_outside {set = set} a h = record { marks = λ j. h.marks j ∙ ap (λ (t : Bool). t && not (bit j set)) (a j) }
