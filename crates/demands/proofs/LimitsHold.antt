-- Records within the limits are treated as before: the refusals 1 to 5 look at the limits, and an answer depends on the limits through them alone.
use Rattle.std.specs.Prelude.{ℕ, ◌≤◌, ◌≡◌, ◌≢◌, true, List, leb, length}
use Rattle.std.proofs.Common.{arith, sym, ◌∙◌, ap, inl, inr, ⊎_elim, leb-true, leb-false}
use Rattle.std.proofs.Math.Path.{refl}
use Rattle.matrix.specs.Shape.{Limits, limits, most_subjects, shape_of, in_range}
use Rattle.matrix.specs.Record.{record_refusal}
use Rattle.matrix.specs.Calls.{valid_answer, held_refusal, held_answer, held_result, command_answer, command_result, command_bytes, run_refusal, run_answer, run_result, run_bytes}
use Rattle.matrix.specs.Converting.{convert_refusal, convert_result, convert_output}
use Rattle.matrix.specs.FirstHeld.{first_held_refusal, first_held_result}
use Rattle.laws.specs.Tests.{way, same_test}
use Rattle.laws.specs.Range.{ranged, in_range_lem}
use Rattle.question.specs.Safety.{Safety}
use Rattle.question.specs.Asked.{safety_refusal, Answers}
use Rattle.demands.specs.First.{First}
use Rattle.demands.specs.Printed.{OutOfRange, safety_conditions}
use Rattle.demands.proofs.Refusals.{safety_numbered}
use Rattle.demands.specs.Limits.{limits_before, NotAbove, SameCalls, enough, LimitsMoved}

-- what one test lets pass the other does
passes : (most other : Limits) (b : List ℕ) → NotAbove other b → in_range most (shape_of b) ≡ true → in_range other (shape_of b) ≡ true
passes most other b h e =
    in_range_lem other (shape_of b) (record { low = (ranged most (shape_of b) e).low; high = omega (arith, h.subjects); plain = omega (arith, h.plain) })

-- An answer of the safety question under one refusal is one under the same refusal.
module _ (most other : Limits) (b : List ℕ) (mask s o right : ℕ) (out out' : List ℕ) (r : Safety) where
  answers_same : safety_refusal most b mask s o right (length out) ≡ safety_refusal other b mask s o right (length out)
      → Answers most b mask s o right out out' r → Answers other b mask s o right out out' r
  answers_same e a =
      record {
        refused = λ some. let turned = a.refused (λ none. some (sym e ∙ none)) in (turned.0 ∙ ap Safety.Refused e, turned.1);
        decided = λ none. a.decided (e ∙ none);
        number = a.number ∙ e;
        size = a.size;
      }

module _ (most other : Limits) (b : List ℕ) (here : NotAbove most b) (there : NotAbove other b) where
  refusal_same : record_refusal most b ≡ record_refusal other b
  unfolding record_refusal
  refusal_same = rw (same_test (in_range most (shape_of b)) (in_range other (shape_of b)) (passes most other b there) (passes other most b here)) refl

  same_calls : SameCalls most other b
  unfolding valid_answer held_refusal held_answer held_result command_answer command_result command_bytes run_refusal run_answer run_result run_bytes convert_refusal convert_result convert_output first_held_refusal first_held_result safety_refusal
  same_calls =
      record {
        valid = rw refusal_same refl;
        held = λ s o right. rw refusal_same refl;
        held_result_lem = λ s o right. rw refusal_same refl;
        command = λ c. rw refusal_same refl;
        command_result_lem = λ c. rw refusal_same refl;
        command_bytes_lem = λ c. rw refusal_same refl;
        run = λ l. rw refusal_same refl;
        run_result_lem = λ l. rw refusal_same refl;
        run_bytes_lem = λ l. rw refusal_same refl;
        convert_result_lem = λ v out. rw refusal_same refl;
        convert_output_lem = λ v out. rw refusal_same refl;
        first_held = λ l s o right room. rw refusal_same refl;
        safety = λ mask s o right out out' r.
            (answers_same most other b mask s o right out out' r (rw refusal_same refl), answers_same other most b mask s o right out out' r (rw refusal_same refl));
      }

-- what is not above the limits was not above those before
not_above_before : (b : List ℕ) → NotAbove limits b → NotAbove limits_before b
not_above_before b h =
    let n : (shape_of b).n ≤ limits.subjects = h.subjects in
    let p : (shape_of b).p ≤ limits.plain = h.plain in
    record { subjects = omega arith; plain = omega arith }

-- with enough bytes 15 is never the first condition to hold: n is in range then
module _ (b : List ℕ) (mask s o right bytes : ℕ) (h : enough ≤ bytes) where
  few : (OutOfRange (shape_of b) → ⊥) → (shape_of b).n ≤ most_subjects
  few within =
      ⊎_elim (λ t. leb-true (shape_of b).n most_subjects t) (λ t. absurd (within (inr (inl (leb-false (shape_of b).n most_subjects t))))) (way (leb (shape_of b).n most_subjects))

  not_first : First (safety_conditions b mask s o right bytes) 15 → ⊥
  not_first (inl (c, e)) = omega arith
  not_first (inr (c, inl (d, e))) = omega arith
  not_first (inr (c, inr (d, inl (f, e)))) = omega arith
  not_first (inr (c, inr (d, inr (f, inl (g, e))))) = omega arith
  not_first (inr (c, inr (d, inr (f, inr (g, inl (k, e)))))) = omega arith
  not_first (inr (c, inr (d, inr (f, inr (g, inr (k, inl (l, e))))))) = omega arith
  not_first (inr (c, inr (d, inr (f, inr (g, inr (k, inr (l, inl (short, e)))))))) = omega (arith, few f)
  not_first (inr (c, inr (d, inr (f, inr (g, inr (k, inr (l, inr none))))))) = none.1

  room_enough : safety_refusal limits b mask s o right bytes ≢ 15
  room_enough e = not_first (((safety_numbered b mask s o right bytes).refused 15 (omega arith)).0 e)

pub limits_moved : LimitsMoved
limits_moved =
    record {
      any = λ most other b here there. same_calls most other b here there;
      before = λ b h. same_calls limits_before limits b (not_above_before b h) h;
      room = room_enough;
    }
