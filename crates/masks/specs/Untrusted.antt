-- The untrusted members of a set, and the lowest untrusted existing subject.
use Rattle.std.specs.Prelude.{ℕ, ◌-◌, ◌<◌, ◌≡◌, refl, Option, Bool, true, false, not, ◌&&◌, List, ltb}
use Rattle.std.proofs.Common.{arith, ◌∙◌, ap, lt-ltb, le-ltb, ltb-true, ltb-false, ⊎_elim}
use Rattle.std.specs.Int.Bits.{bit_and}
use Rattle.matrix.specs.declared.Shape.{Shape}
use Rattle.matrix.specs.Bounded.{least}
use Rattle.matrix.specs.Bytes.{bit}
use Rattle.matrix.specs.State.{exists}
use Rattle.matrix.specs.Reading.{state_of}
use Rattle.laws.specs.Tests.{way}
use Rattle.laws.specs.BitOps.{bit_and_lem}
use Rattle.codec.specs.Bits.{bit_beyond}
use Rattle.cells.specs.Station.{Station, right_shape}
use Rattle.row_search.specs.SomeBelow.{some_below}
use Rattle.masks.specs.Marks.{mask_bits, MarksOf, LeftOut}
use Rattle.masks.specs.Digits.{bit_not}
use Rattle.masks.specs.Searches.{Same, some_same}

-- a set masked by the complement of the trust mask
pub left_out : (set trust : ℕ) → set < 18446744073709551616 → trust < 18446744073709551616 → LeftOut set trust (bit_and set (18446744073709551615 - trust))
left_out set trust g h =
    record { marks = λ j. bit_and_lem j set (18446744073709551615 - trust) ∙ ⊎_elim (within j) (beyond j) (way (ltb j mask_bits)) }
  where
    within : (j : ℕ) → ltb j mask_bits ≡ true → (bit j set && bit j (18446744073709551615 - trust)) ≡ (bit j set && not (bit j trust))
    within j t = ap (λ (u : Bool). bit j set && u) (bit_not mask_bits j trust h (ltb-true j mask_bits t))

    beyond : (j : ℕ) → ltb j mask_bits ≡ false → (bit j set && bit j (18446744073709551615 - trust)) ≡ (bit j set && not (bit j trust))
    beyond j t = rw (bit_beyond mask_bits j set g (ltb-false j mask_bits t)) refl

-- subject v of a record exists and is not trusted
abbrev pub free : List ℕ → ℕ → ℕ → Bool
free b trust v = exists (state_of b) v && not (bit v trust)

-- r marks the untrusted ones of the marked existing subjects, so that its lowest is the lowest of them
pub lowest_free : {b : List ℕ} {f : Shape} {m trust r : ℕ} {o : Option ℕ} → Station b f → MarksOf b f.n m → LeftOut m trust r
    → o ≡ some_below mask_bits (least mask_bits (λ j. bit j r)) → o ≡ some_below f.n (least f.n (free b trust))
lowest_free {b} {f} {m} {trust} {r} h e d g = g ∙ some_same same
  where
    same : Same mask_bits f.n (λ j. bit j r) (free b trust)
    same =
        record {
          within = omega (arith, (right_shape h).high);
          below = λ j l. d.marks j ∙ ap (λ (t : Bool). t && not (bit j trust)) (e.marks j) ∙ rw (lt-ltb j f.n l) refl;
          above = λ j g l. d.marks j ∙ ap (λ (t : Bool). t && not (bit j trust)) (e.marks j) ∙ rw (le-ltb j f.n g) refl;
        }
