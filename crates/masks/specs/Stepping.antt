-- The members of a set, one after another: what a step gives and what it leaves.
use Rattle.std.specs.Prelude.{ℕ, ◌-◌, ◌*◌, ◌%◌, ◌^◌, ◌<◌, ◌≡◌, refl, Option, Some, None, Bool, true, false, not, ◌&&◌, eqb, ltb}
use Rattle.std.proofs.Common.{arith, sym, ◌∙◌, ap, subst, ⊎_elim, eq-eqb, ltb-true, ltb-false}
use Rattle.std.specs.Int.Bits.{bit_and}
use Rattle.std.proofs.lemmas.Nat.{and_le_l}
use Rattle.matrix.specs.Bounded.{any, least}
use Rattle.matrix.specs.Bytes.{bit}
use Rattle.laws.specs.Tests.{way, clash, fails}
use Rattle.laws.specs.Bounded.{any_none, least_first, least_passes}
use Rattle.codec.specs.Bits.{one_shifted, bit_power, bit_beyond}
use Rattle.row_search.specs.SomeBelow.{some_below, some_was, none_was}
use Rattle.masks.specs.declared.Members.{Members}
use Rattle.masks.specs.Marks.{mask_bits}
use Rattle.masks.specs.Lowest.{least_before}
use Rattle.masks.specs.Untrusted.{left_out}

-- v is the lowest member of a set
pub record LowestOf (set v : ℕ) : Type 0 where
  pub member : bit v set ≡ true
  pub none_below : (j : ℕ) → j < v → bit j set ≡ false

-- a step gives the lowest member and leaves the others, or gives none where there are no members
abbrev pub GivesLowest : Members → Option ℕ → Members → Type 0
GivesLowest s None t = (j : ℕ) → bit j s.left ≡ false
GivesLowest s (Some v) t = LowestOf s.left v × ((j : ℕ) → bit j t.left ≡ (bit j s.left && not (eqb j v)))

-- v is what the search for the lowest member found, and r is the set without it
pub stepped : {set v : ℕ} → set < 18446744073709551616 → Some v ≡ some_below mask_bits (least mask_bits (λ j. bit j set))
    → let r = bit_and set (18446744073709551615 - 1 * 2 ^ v % 18446744073709551616) in
    LowestOf set v × ((j : ℕ) → bit j r ≡ (bit j set && not (eqb j v))) × (r < set)
stepped {set} {v} h e = (lowest, left, omega (arith, and_le_l set (18446744073709551615 - 1 * 2 ^ v % 18446744073709551616), other))
  where
    r : ℕ
    r = bit_and set (18446744073709551615 - 1 * 2 ^ v % 18446744073709551616)

    below : v < mask_bits
    below = (some_was e).0

    is : v ≡ least mask_bits (λ j. bit j set)
    is = (some_was e).1

    lowest : LowestOf set v
    lowest =
        record {
          member = subst (λ (i : ℕ). bit i set ≡ true) (sym is) (least_passes mask_bits (λ j. bit j set) (subst (λ (i : ℕ). i < mask_bits) is below));
          none_below = λ j l. any_none v (λ j. bit j set) j (subst (λ (i : ℕ). any i (λ j. bit j set) ≡ false) (sym is) (least_before mask_bits (λ j. bit j set))) l;
        }

    left : (j : ℕ) → bit j r ≡ (bit j set && not (eqb j v))
    left j =
        (left_out set (1 * 2 ^ v % 18446744073709551616) h (omega arith)).marks j
        ∙ ap (λ (t : Bool). bit j set && not t) (ap (bit j) (one_shifted v below) ∙ bit_power j v)

    other : r ≡ set → ⊥
    other q = clash lowest.member (sym (ap (bit v) q) ∙ left v ∙ rw (eq-eqb v v refl) (and_none (bit v set)))
      where
        and_none : (t : Bool) → (t && false) ≡ false
        and_none true = refl
        and_none false = refl

-- the search found none
pub emptied : (s t : Members) {r : Option ℕ} → s.left < 18446744073709551616 → r ≡ None → None ≡ some_below mask_bits (least mask_bits (λ j. bit j s.left)) → GivesLowest s r t
emptied s t h e g = subst (λ (r : Option ℕ). GivesLowest s r t) (sym e) (λ j. ⊎_elim (within j) (beyond j) (way (ltb j mask_bits)))
  where
    none_set : any mask_bits (λ j. bit j s.left) ≡ false
    none_set =
        fails (any mask_bits (λ j. bit j s.left))
        (λ a. let l : least mask_bits (λ j. bit j s.left) < mask_bits = (least_first mask_bits (λ j. bit j s.left) a).below in absurd (omega (arith, none_was g)))

    within : (j : ℕ) → ltb j mask_bits ≡ true → bit j s.left ≡ false
    within j l = any_none mask_bits (λ j. bit j s.left) j none_set (ltb-true j mask_bits l)

    beyond : (j : ℕ) → ltb j mask_bits ≡ false → bit j s.left ≡ false
    beyond j l = bit_beyond mask_bits j s.left h (ltb-false j mask_bits l)
