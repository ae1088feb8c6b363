-- A held question, step by step; and its answer on a whole record, where the tests 1 to 5 come first.
use Rattle.std.specs.Prelude.{ℕ, ◌<◌, ◌≡◌, Bool, ◌&&◌, List, eqb, ltb}
use Rattle.std.proofs.Math.Path.{refl, sym}
use Rattle.std.proofs.Common.{◌∙◌, ap, ltb-true, eq-eqb, ne_eqb}
use Rattle.std.proofs.Math.Bool.{true, false, cond}
use Rattle.matrix.specs.Answers.{Holding}
use Rattle.matrix.specs.Answers.{Yes, No, Refused}
use Rattle.matrix.specs.declared.Shape.{Shape}
use Rattle.matrix.specs.Tests.{first_failed}
use Rattle.matrix.specs.Shape.{limits, shape_of, bits_of, columns}
use Rattle.matrix.specs.Record.{record_refusal}
use Rattle.matrix.specs.Calls.{question_fits, holds_on, held_refusal, held_answer}
use Rattle.laws.specs.Tests.{and_left, and_right}
use Rattle.cells.specs.Station.{Cell, Station}
use Rattle.holding.specs.Held.{held_on}

-- t is whether the numbers of the question fit
module _ (b : List ℕ) (f : Shape) (s o right : ℕ) (station : Station b f) where
  fits_same : question_fits (shape_of b) s o right ≡ question_fits f s o right
  fits_same = ap (λ (e : Shape). question_fits e s o right) (sym station.shape)

  -- the numbers do not fit
  pub held_unfit : {t : Bool} → t ≡ question_fits f s o right → t ≡ false → Refused 7 ≡ held_on b s o right
  unfolding held_on
  held_unfit e h = let g : question_fits (shape_of b) s o right ≡ false = fits_same ∙ sym e ∙ h in rw g refl

  -- they do, and v is whether the right is held
  pub held_fit : {t u : Bool} (v : Bool) → t ≡ question_fits f s o right → t ≡ true → u ≡ holds_on b s o right → u ≡ v → cond v Yes No ≡ held_on b s o right
  unfolding held_on
  held_fit v e h d w =
      let q : question_fits (shape_of b) s o right ≡ true = fits_same ∙ sym e ∙ h in rw q (ap (λ (v : Bool). cond v Yes No) (sym w ∙ d))

  -- they are those of a cell of the record and of one of its bits
  pub cell_asked : {t : Bool} → t ≡ question_fits f s o right → t ≡ true → Cell b f s o × (right < bits_of f)
  cell_asked e h =
      let q : question_fits f s o right ≡ true = sym e ∙ h in
      let names : (ltb s f.n && ltb o (columns f)) ≡ true = and_left (ltb s f.n && ltb o (columns f)) (ltb right (bits_of f)) q in (
        record {
          station = station;
          row = ltb-true s f.n (and_left (ltb s f.n) (ltb o (columns f)) names);
          column = ltb-true o (columns f) (and_right (ltb s f.n) (ltb o (columns f)) names);
        },
        ltb-true right (bits_of f) (and_right (ltb s f.n && ltb o (columns f)) (ltb right (bits_of f)) q),
      )

-- ---- the answer on a whole record

-- the tests 1 to 5, then 7
refusal_is : (b : List ℕ) (s o right : ℕ) → held_refusal limits b s o right ≡ cond (eqb (record_refusal limits b) 0) (cond (question_fits (shape_of b) s o right) 0 7) (record_refusal limits b)
unfolding held_refusal first_failed
refusal_is b s o right = refl

refused_or : (t : Bool) (a : Holding) → cond t a (Refused 7) ≡ cond (eqb (cond t 0 7) 0) a (Refused (cond t 0 7))
refused_or true a = refl
refused_or false a = refl

-- the tests 1 to 5 are passed: the question is answered, or refused by 7
pub held_answer_lem : (b : List ℕ) (s o right : ℕ) → record_refusal limits b ≡ 0 → held_on b s o right ≡ held_answer limits b s o right
unfolding held_on held_answer
held_answer_lem b s o right h =
    let e : eqb (record_refusal limits b) 0 ≡ true = eq-eqb (record_refusal limits b) 0 h in
    let r : held_refusal limits b s o right ≡ cond (question_fits (shape_of b) s o right) 0 7 = refusal_is b s o right ∙ rw e refl in
    rw r (refused_or (question_fits (shape_of b) s o right) (cond (holds_on b s o right) Yes No))

-- they are not: the question is refused by the first of them that is not passed
pub held_refused : (b : List ℕ) (s o right : ℕ) → (record_refusal limits b ≡ 0 → ⊥) → Refused (record_refusal limits b) ≡ held_answer limits b s o right
unfolding held_answer
held_refused b s o right ne =
    let e : eqb (record_refusal limits b) 0 ≡ false = ne_eqb (record_refusal limits b) 0 ne in
    let r : held_refusal limits b s o right ≡ record_refusal limits b = refusal_is b s o right ∙ rw e refl in
    rw (r, e) refl
