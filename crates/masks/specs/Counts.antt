-- Trailing zeros find the lowest bit that is set, and ones count those that are.
use Rattle.std.specs.Prelude.{ℕ, zero, suc, ◌+◌, ◌/◌, ◌%◌, ◌^◌, ◌<◌, ◌≡◌, refl, Some, None, Bool, false, cond, eqb}
use Rattle.std.proofs.Common.{mod-lt, add-one, arith, sym, ◌∙◌, ap, ap₂, shr_lt}
use Rattle.std.proofs.Math.Arith.{lt-one}
use Rattle.std.specs.Int.Count.{count_trailing_zeros, under, ones, ones_step}
use Rattle.matrix.specs.Bounded.{any, count, least}
use Rattle.matrix.specs.Bytes.{bit}
use Rattle.laws.specs.Tests.{fails, holds}
use Rattle.laws.specs.Bounded.{least_same, count_same, least_hit, least_none, least_first}
use Rattle.laws.specs.Counting.{some_count, count_none}
use Rattle.row_search.specs.SomeBelow.{some_below, below_some, below_none}
use Rattle.masks.specs.Marks.{mask_bits}
use Rattle.masks.specs.Digits.{bit_half}
use Rattle.masks.specs.Searches.{least_next, count_next}

-- the lowest bit is the lowest digit
bit_lowest : (v d : ℕ) → v % 2 ≡ d → bit 0 v ≡ eqb d 1
unfolding bit
bit_lowest v d e = let q : v / 1 % 2 ≡ d = omega arith in ap (λ (d : ℕ). eqb d 1) q

none : (f : ℕ → Bool) → any 0 f ≡ false
unfolding any
none f = refl

-- the lowest bit that is set, none below it
pub trailing_least : (k v : ℕ) → count_trailing_zeros k v ≡ least k (λ j. bit j v)
unfolding count_trailing_zeros least
trailing_least zero v = refl
trailing_least (suc k) v = by (v % 2) refl (mod-lt v (omega arith)) (trailing_least k (v / 2))
  where
    by : (d : ℕ) → v % 2 ≡ d → d < 2 → count_trailing_zeros k (v / 2) ≡ least k (λ j. bit j (v / 2))
        → under d (count_trailing_zeros k (v / 2)) ≡ least (suc k) (λ j. bit j v)
    by zero e h q =
        ap suc (q ∙ sym (least_same k (λ j. bit (suc j) v) (λ j. bit j (v / 2)) (λ j l. bit_half j v)))
        ∙ sym (least_next k (λ j. bit j v) (bit_lowest v 0 e))
    by (suc zero) e h q = sym (least_hit (suc k) (λ j. bit j v) 0 (omega arith) (none (λ j. bit j v)) (bit_lowest v 1 e))
    by (suc (suc d)) e h q = absurd (omega arith)

-- as many as are set
pub ones_count : (k v : ℕ) → v < 2 ^ k → ones v ≡ count k (λ j. bit j v)
unfolding ones count
ones_count zero v h = ap ones (lt-one h)
ones_count (suc k) v h =
    ones_step v
    ∙ ap₂ (λ (x y : ℕ). x + y) (digit (v % 2) refl (mod-lt v (omega arith)))
    (ones_count k (v / 2) (shr_lt k 1 (rw add-one h)) ∙ sym (count_same k (λ j. bit (suc j) v) (λ j. bit j (v / 2)) (λ j l. bit_half j v)))
    ∙ sym (count_next k (λ j. bit j v))
  where
    digit : (d : ℕ) → v % 2 ≡ d → d < 2 → d ≡ cond (bit 0 v) 1 0
    digit zero e h = rw (bit_lowest v 0 e) refl
    digit (suc zero) e h = rw (bit_lowest v 1 e) refl
    digit (suc (suc d)) e h = absurd (omega arith)

-- the lowest member of a set of k members, which has none where k is 0
module _ (v : ℕ) {k : ℕ} (size : k ≡ count mask_bits (λ j. bit j v)) where
  pub lowest_none : k ≡ 0 → None ≡ some_below mask_bits (least mask_bits (λ j. bit j v))
  lowest_none z =
      let none_set : any mask_bits (λ j. bit j v) ≡ false =
      fails (any mask_bits (λ j. bit j v)) (λ a. let q = some_count mask_bits (λ j. bit j v) a in omega arith) in
      let e : least mask_bits (λ j. bit j v) ≡ mask_bits = least_none mask_bits (λ j. bit j v) none_set in
      below_none (omega arith)

  pub lowest_some : (k ≡ 0 → ⊥) → Some (count_trailing_zeros mask_bits v) ≡ some_below mask_bits (least mask_bits (λ j. bit j v))
  lowest_some ne =
      ap Some (trailing_least mask_bits v)
      ∙ below_some (least_first mask_bits (λ j. bit j v) (holds (any mask_bits (λ j. bit j v)) (λ a. ne (size ∙ count_none mask_bits (λ j. bit j v) a)))).below
