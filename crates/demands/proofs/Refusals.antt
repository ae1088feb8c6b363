-- The numbers that the definitions of the calls give are those of the printed conditions, the first that holds.
use Rattle.std.specs.Prelude.{ℕ, ◌+◌, ◌<◌, ◌≤◌, ◌≡◌, refl, ◌≢◌, true, false, not, ◌&&◌, List, [], ◌∷◌, ◌++◌, eqb, leb, length, drop}
use native.Mathlib.Omega.{arith}
use Rattle.std.proofs.Common.{sym, ◌∙◌, subst, inl, inr, ⊎_elim, leb-true, leb-false}
use Rattle.std.proofs.Math.Path.{ap}
use Rattle.std.proofs.Math.Bool.{Bool, cond}
use Rattle.std.proofs.lemmas.Bool.{not-true, not-false}
use Rattle.matrix.specs.declared.Fields.{Fields}
use Rattle.matrix.specs.Names.{name_of, column_of}
use Rattle.matrix.specs.State.{State, exists}
use Rattle.matrix.specs.Valid.{Valid}
use Rattle.matrix.specs.Commands.{known, rule_of, fields_fit, decode}
use Rattle.matrix.specs.Tests.{Test, test, first_failed, command_tests}
use Rattle.matrix.specs.Step.{refusal_of, refusal}
use Rattle.matrix.specs.declared.Shape.{Shape}
use Rattle.matrix.specs.Shape.{limits, most_subjects, most_plain, shape_of, header_bytes, in_range, basics_of}
use Rattle.matrix.specs.Reading.{state_of}
use Rattle.matrix.specs.Record.{valid_matrix, record_refusal}
use Rattle.matrix.specs.CommandList.{well_formed}
use Rattle.matrix.specs.Calls.{question_fits, held_refusal, names_fit, raw_of, refusal_on, run_refusal}
use Rattle.matrix.specs.Converting.{basic_from, convert_refusal}
use Rattle.matrix.specs.FirstHeld.{first_held_refusal}
use Rattle.laws.specs.Tests.{way, clash}
use Rattle.laws.specs.Passed.{itself}
use Rattle.laws.specs.Basics.{SetFrom, basic_found, basic_hit, basic_none}
use Rattle.laws.specs.Range.{Ranged, ranged}
use Rattle.codec.specs.Columns.{column_of_name_of}
use Rattle.codec.specs.ShapeRight.{TwoOrFour}
use Rattle.codec.proofs.ShapeRight.{widths}
use Rattle.codec.specs.RoundTrip.{within_read}
use Rattle.codec.specs.InVersion.{basic_room}
use Rattle.owners.proofs.Test.{valid_of_test, test_of_valid}
use Rattle.owners.specs.Read.{record_tests}
use Rattle.question.specs.Asked.{trust_fits, list_room, safety_refusal}
use Rattle.demands.specs.First.{Condition, condition, Numbered}
use Rattle.demands.specs.FirstLaws.{Against, AllAgainst, numbered, numbered_then}
use Rattle.demands.specs.Printed.{OutOfRange, record_conditions, fields_right, command_conditions, held_conditions, run_conditions, safety_conditions, first_held_conditions, HighRight, record_bytes, version1_conditions, version2_conditions}
use Rattle.demands.proofs.Codes.{Agrees, agrees}

-- a test, and the condition that it fails
fails_test : (m : ℕ) (t : Bool) → m ≢ 0 → Against (test m t) (condition m (t ≡ false))
fails_test m t some = record { number = refl; some = some; failed = λ e. e; passed = λ e h. clash e h }

-- a test, and a condition of which it is the opposite
opposite : (m : ℕ) (t u : Bool) → m ≢ 0 → t ≡ not u → Against (test m t) (condition m (u ≡ true))
opposite m t true some e = record { number = refl; some = some; failed = λ h. refl; passed = λ h g. clash h e }
opposite m t false some e = record { number = refl; some = some; failed = λ h. absurd (clash e h); passed = λ h g. clash g refl }

-- a test that a number is at least another, and the condition that it is below it
below_test : (m least given : ℕ) → m ≢ 0 → Against (test m (leb least given)) (condition m (given < least))
below_test m least given some =
    record { number = refl; some = some; failed = λ e. leb-false least given e; passed = λ e h. let l = leb-true least given e in omega arith }

-- ---- 1 to 5

-- n and p are tested against the limits: where the test fails one of the three printed cases holds, and where it passes none
out_of_range : (f : Shape) → in_range limits f ≡ false → OutOfRange f
out_of_range f h =
    ⊎_elim (λ l. ⊎_elim (λ u. inr (inr (omega (arith, above l u)))) (λ u. inr (inl (omega (arith, leb-false f.n most_subjects u)))) (way (leb f.n most_subjects)))
    (λ l. inl (omega (arith, leb-false 1 f.n l))) (way (leb 1 f.n))
  where
    above : leb 1 f.n ≡ true → leb f.n most_subjects ≡ true → most_plain < f.p
    above l u = let e : leb f.p most_plain ≡ false = rw (l, u) at h in leb-false f.p most_plain e

within_range : (f : Shape) → in_range limits f ≡ true → OutOfRange f → ⊥
within_range f h out = let r : Ranged limits f = ranged limits f h in inside r.low r.high r.plain out
  where
    inside : 1 ≤ f.n → f.n ≤ most_subjects → f.p ≤ most_plain → OutOfRange f → ⊥
    inside l u v (inl z) = omega arith
    inside l u v (inr (inl z)) = omega arith
    inside l u v (inr (inr z)) = omega arith

pub record_numbered : (b : List ℕ) → Numbered (record_conditions b) (record_refusal limits b)
unfolding record_refusal
record_numbered b =
    numbered (record_tests b) (record_conditions b)
    (below_test 1 header_bytes (length b) (omega arith), λ a. (fails_test 2 _ (omega arith), λ c. (range, λ d. (fails_test 4 _ (omega arith), λ e. (matrix, λ f. tt)))))
  where
    range : Against (test 3 (in_range limits (shape_of b))) (condition 3 (OutOfRange (shape_of b)))
    range = record { number = refl; some = omega arith; failed = out_of_range (shape_of b); passed = λ e. within_range (shape_of b) e }

    matrix : Against (test 5 (valid_matrix (shape_of b) (state_of b))) (condition 5 (Valid (state_of b) → ⊥))
    matrix =
        record {
          number = refl;
          some = omega arith;
          failed = λ e v. clash (test_of_valid (shape_of b) (state_of b) (within_read b) v) e;
          passed = λ e h. h (valid_of_test (shape_of b) (state_of b) (within_read b) e);
        }

-- ---- the conditions of a command

module _ (f : Shape) (S : State) (c : Fields) where
  abbrev code_tests : List Test
  code_tests =
      test 6 (known c.code) ∷
      test 7 (names_fit f c && fields_fit (basics_of f) (rule_of c.code c.k) c.s (column_of (name_of f.n c.o)) c.k) ∷
      command_tests S (decode (raw_of f c))

  -- the tests of a command in one list
  one_list : refusal_on f S c ≡ first_failed code_tests
  unfolding refusal_on refusal refusal_of first_failed
  one_list =
      ap (λ (m : ℕ). cond (known c.code) (cond fit m 7) 6) (itself (refusal_of S (decode (raw_of f c))))
    where
      fit : Bool
      fit = names_fit f c && fields_fit (basics_of f) (rule_of c.code c.k) c.s (column_of (name_of f.n c.o)) c.k

  against : AllAgainst code_tests (command_conditions f S c)
  against = (fails_test 6 (known c.code) (omega arith), λ e. later (agrees S c.i c.s (name_of f.n c.o) c.k c.code e))
    where
      column : column_of (name_of f.n c.o) ≡ c.o
      column = column_of_name_of f.n c.o

      later : Agrees S c.i c.s (name_of f.n c.o) c.k c.code → AllAgainst (drop 1 code_tests) (drop 1 (command_conditions f S c))
      later a = (
        subst (λ (t : Bool). Against (test 7 (names_fit f c && t)) (condition 7 ((names_fit f c && fields_right (basics_of f) c.code c.s c.o c.k) ≡ false)))
            (sym (a.fields (basics_of f) ∙ ap (λ (m : ℕ). fields_right (basics_of f) c.code c.s m c.k) column)) (fails_test 7 _ (omega arith)),
        λ t. (
          fails_test 8 (exists S c.i) (omega arith),
          λ t. (
            opposite 9 _ _ (omega arith) a.kind,
            λ t. (
              opposite 10 _ _ (omega arith) a.there,
              λ t. (
                opposite 11 _ _ (omega arith) a.absent,
                λ t. (
                  opposite 12 _ _ (omega arith) a.entitled,
                  λ t. (
                    opposite 19 _ _ (omega arith) a.set,
                    λ t. (
                      opposite 13 _ _ (omega arith) a.unmet,
                      λ t.
                          (opposite 14 _ _ (omega arith) a.alone, λ t. tt),
                    ),
                  ),
                ),
              ),
            ),
          ),
        ),
      )

  pub command_numbered : Numbered (command_conditions f S c) (refusal_on f S c)
  command_numbered = subst (Numbered (command_conditions f S c)) (sym one_list) (numbered code_tests (command_conditions f S c) against)

-- ---- the calls

module _ (b : List ℕ) where
  -- 1 to 5, then what else a call tests
  pub then_numbered : (ds : List Condition) (m : ℕ) → Numbered ds m → Numbered (record_conditions b ++ ds) (cond (eqb (record_refusal limits b) 0) m (record_refusal limits b))
  then_numbered ds m n = numbered_then (record_conditions b) ds (record_numbered b) (λ e. n)

  pub held_numbered : (s o right : ℕ) → Numbered (held_conditions b s o right) (held_refusal limits b s o right)
  unfolding held_refusal first_failed
  held_numbered s o right = then_numbered _ _ (numbered (test 7 (question_fits (shape_of b) s o right) ∷ []) _ (fails_test 7 _ (omega arith), λ e. tt))

  pub run_numbered : (l : List ℕ) → Numbered (run_conditions b l) (run_refusal limits b l)
  unfolding run_refusal first_failed
  run_numbered l = then_numbered _ _ (numbered (test 16 (well_formed l) ∷ []) _ (fails_test 16 _ (omega arith), λ e. tt))

  pub safety_numbered : (mask s o right room : ℕ) → Numbered (safety_conditions b mask s o right room) (safety_refusal limits b mask s o right room)
  unfolding safety_refusal first_failed
  safety_numbered mask s o right room =
      then_numbered _ _
      (numbered (test 7 (question_fits (shape_of b) s o right && trust_fits (shape_of b) mask) ∷ test 15 (leb (list_room ((shape_of b).n + 2)) room) ∷ []) _
      (fails_test 7 _ (omega arith), λ e. (below_test 15 (list_room ((shape_of b).n + 2)) room (omega arith), λ e. tt)))

  pub first_held_numbered : (l : List ℕ) (s o right room : ℕ) → Numbered (first_held_conditions b l s o right room) (first_held_refusal limits b l s o right room)
  unfolding first_held_refusal first_failed
  first_held_numbered l s o right room =
      then_numbered _ _
      (numbered (test 7 (question_fits (shape_of b) s o right) ∷ test 15 (leb (length b) room) ∷ test 16 (well_formed l) ∷ []) _
      (fails_test 7 _ (omega arith), λ e. (below_test 15 (length b) room (omega arith), λ e. (fails_test 16 _ (omega arith), λ e. tt))))

  -- a basic right above 6 is found exactly where the printed condition holds
  high_test : Against (test 18 (not (basic_from 7 (shape_of b) (state_of b)))) (condition 18 (HighRight (shape_of b) (state_of b)))
  high_test =
      record {
        number = refl;
        some = omega arith;
        failed = λ e. let s = basic_found 7 f S (not-false (basic_from 7 f S) e) in (s.w, s.c, s.k, s.form, s.row, s.column, omega (arith, s.high), s.set);
        passed = λ e h. clash (basic_hit 7 f S (found h)) (not-true (basic_from 7 f S) e);
      }
    where
      f : Shape
      f = shape_of b

      S : State
      S = state_of b

      found : HighRight f S → SetFrom 7 f S
      found h =
          record {
            w = h.0;
            c = h.1;
            k = h.2;
            form = h.3;
            row = h.4;
            column = h.5;
            room = basic_room f S (within_read b) h.2 h.3 h.0 (name_of f.n h.1) h.7;
            high = omega (arith, h.6);
            set = h.7;
          }

  pub version1_numbered : (room : ℕ) → Numbered (version1_conditions b room) (convert_refusal limits 1 b room)
  unfolding convert_refusal first_failed
  version1_numbered room =
      then_numbered _ _
      (numbered (test 18 (not (basic_from 7 (shape_of b) (state_of b))) ∷ test 15 (leb (record_bytes 2 (shape_of b)) room) ∷ []) _
      (high_test, λ e. (below_test 15 (record_bytes 2 (shape_of b)) room (omega arith), λ e. tt)))

  -- version 2 has room for the basic rights of both versions
  none_above : basic_from 15 (shape_of b) (state_of b) ≡ false
  unfolding shape_of
  none_above = basic_none 15 (shape_of b) (state_of b) (λ s. too_high s (widths (shape_of b).version))
    where
      too_high : SetFrom 15 (shape_of b) (state_of b) → TwoOrFour (shape_of b).width → ⊥
      too_high s (inl e) = omega arith
      too_high s (inr e) = omega arith

  pub version2_numbered : (room : ℕ) → Numbered (version2_conditions b room) (convert_refusal limits 2 b room)
  unfolding convert_refusal first_failed
  version2_numbered room =
      rw none_above
      (then_numbered _ _
      (numbered (test 15 (leb (record_bytes 4 (shape_of b)) room) ∷ []) _ (below_test 15 (record_bytes 4 (shape_of b)) room (omega arith), λ e. tt)))
