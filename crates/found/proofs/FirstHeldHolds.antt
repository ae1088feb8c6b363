-- The call that finds the first command after which a right is held is as claimed.
use Rattle.std.specs.Prelude.{ℕ, ◌+◌, ◌≤◌, ◌<◌, ◌≡◌, ◌≢◌, ◌↔◌, ◌⊎◌, Bool, true, false, List, [], ◌∷◌, eqb, leb, ltb, length, take}
use Rattle.std.proofs.Common.{zero-add, sym, ◌∙◌, ap, subst, inl, inr, ⊎_elim, length-take-le}
use native.Mathlib.Omega.{arith}
use Rattle.std.proofs.Math.Path.{refl}
use Rattle.std.proofs.Math.Bool.{cond}
use borrow.Author.Tests.{eqb-true, eqb-false, ne_eqb, ltb-true, ltb-false}
use Rattle.matrix.specs.declared.Fields.{Fields}
use Rattle.matrix.specs.Answers.{Yes, No}
use Rattle.matrix.specs.Answers.{Outcome}
use Rattle.matrix.specs.declared.Name.{Name}
use Rattle.matrix.specs.declared.Shape.{Shape}
use Rattle.matrix.specs.Names.{name_of}
use Rattle.matrix.specs.Rights.{right_of}
use Rattle.matrix.specs.State.{held}
use Rattle.matrix.specs.Tests.{Test, test, first_failed}
use Rattle.matrix.specs.Shape.{limits, shape_of}
use Rattle.matrix.specs.Reading.{Content, state_of, content, bytes_of}
use Rattle.matrix.specs.Record.{record_refusal}
use Rattle.matrix.specs.CommandList.{well_formed, commands_in, commands_of}
use Rattle.matrix.specs.Calls.{question_fits, held_refusal, held_answer, Ran, run_from, ran_on, run_refusal, run_answer, run_bytes}
use Rattle.matrix.specs.FirstHeld.{first_on, first_held_refusal, first_held_result}
use Rattle.laws.specs.Tests.{way}
use Rattle.laws.specs.Passed.{none_failed}
use Rattle.lists.specs.Formed.{length_commands}
use Rattle.demands.specs.FirstLaws.{numbered_among}
use Rattle.demands.specs.InTurn.{first_commands}
use Rattle.demands.specs.Printed.{first_held_conditions}
use Rattle.demands.specs.Records.{Sound, sound_record, sound_run, content_read, bytes_pass}
use Rattle.demands.proofs.Refusals.{first_held_numbered}
use Rattle.demands.specs.Shortened.{cut_formed, cut_commands}
use Rattle.found.specs.FirstHeld.{refusal_asked, value_asked, HeldAfter, FirstAfter, FirstHeld}
use Rattle.found.specs.Searched.{HeldAt, Found, Never, searched, all_accepted}

-- the held question on a record that holds a valid state
module _ (m : Content) (sound : Sound m) (s o right : ℕ) (fits : question_fits m.shape s o right ≡ true) where
  fits_there : question_fits (shape_of (bytes_of m)) s o right ≡ true
  fits_there = ap (λ (c : Content). question_fits c.shape s o right) (content_read m sound) ∙ fits

  not_refused : held_refusal limits (bytes_of m) s o right ≡ 0
  unfolding held_refusal first_failed
  not_refused = rw (bytes_pass m sound, fits_there) refl

  held_written : held_answer limits (bytes_of m) s o right ≡ cond (held m.state (right_of right) s (name_of m.shape.n o)) Yes No
  unfolding held_answer
  held_written =
      rw not_refused (ap (λ (c : Content). cond (held c.state (right_of right) s (name_of c.shape.n o)) Yes No) (content_read m sound))

yes_true : (t : Bool) → cond t Yes No ≡ Yes → t ≡ true
yes_true true h = refl
yes_true false h = absurd (let z : ◌≡◌ {A = ℕ} 0 1 = cc in omega arith)

-- ---- the calls and the states

module _ (b l : List ℕ) (s o right : ℕ) (valid : record_refusal limits b ≡ 0) (fits : question_fits (shape_of b) s o right ≡ true) (formed : well_formed l ≡ true) where
  abbrev f : Shape
  f = shape_of b

  abbrev cs : List Fields
  cs = commands_of l

  abbrev over : Name
  over = name_of (shape_of b).n o

  -- the right is held after m commands, by the states
  abbrev At : ℕ → Type 0
  At m = HeldAt f (right_of right) s over 0 (state_of b) cs m

  count : length cs ≡ commands_in l
  count = length_commands l 0 (commands_in l)

  module _ (m : ℕ) (few : m ≤ commands_in l) where
    -- what the first m commands come to
    abbrev after : Ran
    after = run_from 0 f (state_of b) (take m cs)

    cut_ran : ran_on b (first_commands m l) ≡ after
    cut_ran = ap (run_from 0 f (state_of b)) (cut_commands l formed m few)

    not_turned_down : run_refusal limits b (first_commands m l) ≡ 0
    unfolding run_refusal first_failed
    not_turned_down = rw (valid, cut_formed l formed m few) refl

    answer_is : run_answer limits b (first_commands m l) ≡ record { accepted = after.accepted; refusal = after.refusal }
    unfolding run_answer
    answer_is = rw not_turned_down (λ i. record { accepted = (cut_ran i).accepted; refusal = (cut_ran i).refusal })

    bytes_is : run_bytes limits b (first_commands m l) ≡ bytes_of (content f after.state)
    unfolding run_bytes
    bytes_is = rw not_turned_down (ap (λ (r : Ran). bytes_of (content f r.state)) cut_ran)

    held_is : held_answer limits (run_bytes limits b (first_commands m l)) s o right ≡ cond (held after.state (right_of right) s over) Yes No
    held_is =
        ap (λ (x : List ℕ). held_answer limits x s o right) bytes_is
        ∙ held_written (content f after.state) (subst (λ (r : Ran). Sound (content f r.state)) cut_ran (sound_run b (first_commands m l) (sound_record b valid))) s o right fits

  states_of : (m : ℕ) → HeldAfter b l s o right m → At m
  states_of m h =
      record {
        within = rw count h.within;
        accepted = ap (λ (r : Outcome). r.refusal) (sym (answer_is m h.within) ∙ h.accepted);
        held = yes_true _ (sym (held_is m h.within) ∙ h.held);
      }

  calls_of : (m : ℕ) → At m → HeldAfter b l s o right m
  calls_of m a =
      let few : m ≤ commands_in l = subst (λ (n : ℕ). m ≤ n) count a.within in
      let all = all_accepted 0 f (state_of b) (take m cs) a.accepted ∙ zero-add _ ∙ length-take-le m cs a.within in
      record {
        within = few;
        accepted = answer_is m few ∙ (λ i. record { accepted = all i; refusal = a.accepted i });
        held = held_is m few ∙ ap (λ (t : Bool). cond t Yes No) a.held;
      }

  -- by what the search over the states comes to
  abbrev Result : Type 0
  Result = ((m : ℕ) × Found f (right_of right) s over 0 (state_of b) cs m) ⊎ Never f (right_of right) s over 0 (state_of b) cs

  first_after : Result → (m : ℕ) → first_on b l s o right ≡ m + 1 → FirstAfter b l s o right m
  first_after (inr w) m e = absurd (omega (arith, w.value))
  first_after (inl (k, w)) m e = subst (λ (k : ℕ). FirstAfter b l s o right k) same (calls_of k w.at, λ j h a. w.least j h (states_of j a))
    where
      same : k ≡ m
      same = let v : first_on b l s o right ≡ 0 + k + 1 = w.value in omega arith

  value_after : Result → (m : ℕ) → FirstAfter b l s o right m → first_on b l s o right ≡ m + 1
  value_after (inr w) m h = absurd (w.none m (states_of m h.0))
  value_after (inl (k, w)) m h = w.value ∙ ap (λ (k : ℕ). k + 1) (zero-add k ∙ same)
    where
      not_less : k < m → ⊥
      not_less less = h.1 k less (calls_of k w.at)

      not_more : m < k → ⊥
      not_more more = w.least m more (states_of m h.0)

      same : k ≡ m
      same = ⊎_elim (λ t. absurd (not_less (ltb-true k m t))) (λ t. ⊎_elim (λ u. absurd (not_more (ltb-true m k u))) (λ u. omega (arith, ltb-false k m t, ltb-false m k u)) (way (ltb m k))) (way (ltb k m))

  none_after : Result → first_on b l s o right ≡ 0 → (m : ℕ) → HeldAfter b l s o right m → ⊥
  none_after (inl (k, w)) e m h = let v : first_on b l s o right ≡ 0 + k + 1 = w.value in omega arith
  none_after (inr w) e m h = w.none m (states_of m h)

  value_none : Result → ((m : ℕ) → HeldAfter b l s o right m → ⊥) → first_on b l s o right ≡ 0
  value_none (inl (k, w)) h = absurd (h k (calls_of k w.at))
  value_none (inr w) h = w.value

  result : Result
  result = searched f (right_of right) s over 0 (state_of b) cs

-- ---- the call

module _ (b l : List ℕ) (s o right room : ℕ) where
  -- a question that is not refused: the record passes 1 to 5, the numbers fit, and the list is of the right form
  record Answerable : Type 0 where
    valid : record_refusal limits b ≡ 0
    fits : question_fits (shape_of b) s o right ≡ true
    formed : well_formed l ≡ true
    value : value_asked b l s o right room ≡ first_on b l s o right

  abbrev tests : List Test
  tests = test (record_refusal limits b) (eqb (record_refusal limits b) 0) ∷ test 7 (question_fits (shape_of b) s o right) ∷ test 15 (leb (length b) room) ∷ test 16 (well_formed l) ∷ []

  answerable : refusal_asked b l s o right room ≡ 0 → Answerable
  unfolding first_held_result first_held_refusal
  answerable h =
      let t = none_failed tests (λ e. eqb-false (record_refusal limits b) 0 e, (omega arith, (omega arith, (omega arith, tt)))) h in
      record { valid = eqb-true (record_refusal limits b) 0 t.0; fits = t.1.0; formed = t.1.1.1.0; value = rw h refl }

  refused_value : refusal_asked b l s o right room ≢ 0 → value_asked b l s o right room ≡ 0
  unfolding first_held_result
  refused_value some = rw (ne_eqb (first_held_refusal limits b l s o right room) 0 some) refl

  first_so : (m : ℕ) → refusal_asked b l s o right room ≡ 0 → (value_asked b l s o right room ≡ m + 1) ↔ FirstAfter b l s o right m
  first_so m h =
      let a = answerable h in
      let r = result b l s o right a.valid a.fits a.formed in
      (λ e. first_after b l s o right a.valid a.fits a.formed r m (sym a.value ∙ e), λ w. a.value ∙ value_after b l s o right a.valid a.fits a.formed r m w)

  none_so : refusal_asked b l s o right room ≡ 0 → (value_asked b l s o right room ≡ 0) ↔ ((m : ℕ) → HeldAfter b l s o right m → ⊥)
  none_so h =
      let a = answerable h in
      let r = result b l s o right a.valid a.fits a.formed in
      (λ e. none_after b l s o right a.valid a.fits a.formed r (sym a.value ∙ e), λ w. a.value ∙ value_none b l s o right a.valid a.fits a.formed r w)

pub first_held : FirstHeld
unfolding first_held_result
first_held =
    record {
      number = λ b l s o right room. first_held_numbered b l s o right room;
      only = λ b l s o right room. numbered_among (first_held_conditions b l s o right room) (first_held_numbered b l s o right room);
      refused = refused_value;
      first = first_so;
      none = none_so;
    }
