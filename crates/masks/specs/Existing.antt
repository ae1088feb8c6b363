-- The mask of the existing subjects, built from the lowest up.
use Rattle.std.specs.Prelude.{ℕ, ◌+◌, ◌<◌, ◌≡◌, refl, Bool, true, false, ◌&&◌, ◌||◌, List, eqb, ltb}
use Rattle.std.proofs.Common.{arith, sym, ◌∙◌, ap, ⊎_elim, eqb-true, lt-ltb, le-ltb, ltb-true, ltb-false}
use Rattle.std.proofs.lemmas.Bool.{eqb-false}
use Rattle.matrix.specs.State.{exists}
use Rattle.matrix.specs.Reading.{state_of}
use Rattle.laws.specs.Tests.{way}
use Rattle.codec.specs.Bits.{bit_zero}
use Rattle.masks.specs.Marks.{MarksOf, Added}

pub marks_none : (b : List ℕ) → MarksOf b 0 0
marks_none b = record { marks = λ j. bit_zero j ∙ rw (le-ltb j 0 (omega arith)) refl }

-- whether a number is below the next bound
one_more : (j s : ℕ) → ltb j (s + 1) ≡ (ltb j s || eqb j s)
one_more j s =
    ⊎_elim (λ (t : ltb j s ≡ true). rw (t, lt-ltb j (s + 1) (let l : j < s = ltb-true j s t in omega arith)) refl)
    (λ (t : ltb j s ≡ false). ⊎_elim
    (λ (u : eqb j s ≡ true). rw (t, u, lt-ltb j (s + 1) (let e : j ≡ s = eqb-true j s u in omega arith)) refl)
    (λ (u : eqb j s ≡ false). rw (t, u, le-ltb j (s + 1) (omega (arith, eqb-false j s u, ltb-false j s t))) refl) (way (eqb j s))) (way (ltb j s))

with_one : (t u x : Bool) → (u ≡ true → x ≡ true) → ((t && x) || u) ≡ ((t || u) && x)
with_one true true x h = rw (h refl) refl
with_one false true x h = rw (h refl) refl
with_one true false true h = refl
with_one true false false h = refl
with_one false false x h = refl

without_one : (t u x : Bool) → (u ≡ true → x ≡ false) → (t && x) ≡ ((t || u) && x)
without_one true u x h = refl
without_one false true x h = rw (h refl) refl
without_one false false x h = refl

module _ {b : List ℕ} {s m : ℕ} (h : MarksOf b s m) where
  at_one : {t : Bool} (j : ℕ) → exists (state_of b) s ≡ t → eqb j s ≡ true → exists (state_of b) j ≡ t
  at_one j e u = ap (exists (state_of b)) (eqb-true j s u) ∙ e

  -- s exists, and v is the mask with it; or it doesn't
  pub marks_more : {v : ℕ} → exists (state_of b) s ≡ true → Added m s v → MarksOf b (s + 1) v
  marks_more e a =
      record {
        marks =
            λ j. a.marks j ∙ ap (λ (t : Bool). t || eqb j s) (h.marks j) ∙ with_one (ltb j s) (eqb j s) (exists (state_of b) j) (at_one j e)
            ∙ ap (λ (t : Bool). t && exists (state_of b) j) (sym (one_more j s));
      }

  pub marks_same : exists (state_of b) s ≡ false → MarksOf b (s + 1) m
  marks_same e =
      record {
        marks =
            λ j. h.marks j ∙ without_one (ltb j s) (eqb j s) (exists (state_of b) j) (at_one j e)
            ∙ ap (λ (t : Bool). t && exists (state_of b) j) (sym (one_more j s));
      }
