-- The answer of the call: by which test it is refused, or the first command; and what is left of the lent copy.
use Rattle.std.specs.Prelude.{ℕ, ◌+◌, ◌-◌, ◌≤◌, ◌<◌, ◌≡◌, Bool, true, false, cond, not, List, ◌++◌, eqb, leb, ltb, length, drop}
use Rattle.std.proofs.Common.{arith, sym, ◌∙◌, ap, ap₂, ⊎_elim, length-append, length-drop, drop_at}
use Rattle.std.proofs.Math.Path.{refl}
use borrow.Author.Tests.{leb-true, leb-false, le-ltb, lt-ltb, ne_eqb}
use Rattle.matrix.specs.Numbers.{numbers}
use Rattle.matrix.specs.Tests.{first_failed}
use Rattle.matrix.specs.Shape.{limits, shape_of}
use Rattle.matrix.specs.Record.{record_refusal}
use Rattle.matrix.specs.CommandList.{well_formed}
use Rattle.matrix.specs.Calls.{question_fits}
use Rattle.matrix.specs.FirstHeld.{first_on, first_held_refusal, first_held_result, Lent}
use Rattle.laws.specs.Tests.{way}

-- the refusal after 1 to 5, where the numbers do not fit, the copy is short, or the list is not of the right form
abbrev later : Bool → Bool → Bool → ℕ
later unfit short unformed = cond unfit 7 (cond short 15 (cond unformed 16 0))

-- as the definition tests
tested : (fits formed : Bool) (size room : ℕ) → cond fits (cond (leb size room) (cond formed 0 16) 15) 7 ≡ later (not fits) (ltb room size) (not formed)
tested false formed size room = refl
tested true formed size room =
    ⊎_elim (λ (h : leb size room ≡ true). rw (h, le-ltb room size (leb-true size room h)) (by formed))
    (λ (h : leb size room ≡ false). rw (h, lt-ltb room size (leb-false size room h)) refl) (way (leb size room))
  where
    by : (formed : Bool) → ◌≡◌ {A = ℕ} (cond formed 0 16) (cond (not formed) 16 0)
    by true = refl
    by false = refl

-- A record that passed 1 to 5: the question is refused by 7, by 15 or by 16, or answered.
module _ (b l : List ℕ) (s o right room : ℕ) (passed : record_refusal limits b ≡ 0) where
  refusal : {r : ℕ} → r ≡ later (not (question_fits (shape_of b) s o right)) (ltb room (length b)) (not (well_formed l)) → first_held_refusal limits b l s o right room ≡ r
  refusal e = tests ∙ tested (question_fits (shape_of b) s o right) (well_formed l) (length b) room ∙ sym e
    where
      tests : first_held_refusal limits b l s o right room ≡ cond (question_fits (shape_of b) s o right) (cond (leb (length b) room) (cond (well_formed l) 0 16) 15) 7
      tests = unfold first_held_refusal first_failed in rw passed refl

  refused : {r : ℕ} → (r ≡ 0 → ⊥) → r ≡ later (not (question_fits (shape_of b) s o right)) (ltb room (length b)) (not (well_formed l)) → numbers r 0 ≡ first_held_result limits b l s o right room
  unfolding first_held_result
  refused {r} n e = rw (refusal e, ne_eqb r 0 n) refl

  pub unfit : question_fits (shape_of b) s o right ≡ false → numbers 7 0 ≡ first_held_result limits b l s o right room
  unfit h = refused (λ z. absurd (omega arith)) (rw h refl)

  module _ (fits : question_fits (shape_of b) s o right ≡ true) where
    pub short : room < length b → numbers 15 0 ≡ first_held_result limits b l s o right room
    short h = refused (λ z. absurd (omega arith)) (rw (fits, lt-ltb room (length b) h) refl)

    module _ (holds : length b ≤ room) where
      pub unformed : well_formed l ≡ false → numbers 16 0 ≡ first_held_result limits b l s o right room
      unformed h = refused (λ z. absurd (omega arith)) (rw (fits, le-ltb room (length b) holds, h) refl)

      pub answered : well_formed l ≡ true → numbers 0 (first_on b l s o right) ≡ first_held_result limits b l s o right room
      unfolding first_held_result
      answered h = rw (refusal {r = 0} (rw (fits, le-ltb room (length b) holds, h) refl)) refl

-- 1 to 5 turn the record down
pub turned_down : (b l : List ℕ) (s o right room : ℕ) {m : ℕ} → m ≡ record_refusal limits b → (m ≡ 0 → ⊥) → numbers m 0 ≡ first_held_result limits b l s o right room
unfolding first_held_result
turned_down b l s o right room {m} e n = rw (refusal, no) (ap (λ (m : ℕ). numbers m 0) e)
  where
    no : eqb (record_refusal limits b) 0 ≡ false
    no = ne_eqb (record_refusal limits b) 0 (λ z. n (e ∙ z))

    refusal : first_held_refusal limits b l s o right room ≡ record_refusal limits b
    refusal = unfold first_held_refusal first_failed in rw no refl

-- the lent copy is as it was; or its first bytes are others, as many
pub lent_kept : (number used : ℕ) (copy : List ℕ) → Lent number used copy copy
lent_kept number used copy = record { kept = λ n. refl; later = refl; size = refl }

pub lent_used : (used : ℕ) (x copy : List ℕ) → length x ≡ used → used ≤ length copy → Lent 0 used copy (x ++ drop used copy)
lent_used used x copy e h =
    record {
      kept = λ n. absurd (n refl);
      later = drop_at x (drop used copy) used e;
      size = length-append x (drop used copy) ∙ ap₂ (λ (k m : ℕ). k + m) e (length-drop used copy) ∙ rest used (length copy) h;
    }
  where
    rest : (k m : ℕ) → k ≤ m → k + (m - k) ≡ m
    rest k m h = omega arith
