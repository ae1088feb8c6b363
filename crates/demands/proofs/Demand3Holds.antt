-- Demand 3 holds.
use Rattle.std.specs.Prelude.{ℕ, ◌+◌, ◌≤◌, ◌<◌, ◌≡◌, ◌≢◌, Bool, true, false, ◌&&◌, length}
use Rattle.std.proofs.Math.Path.{refl, ap, subst}
use Rattle.std.proofs.Common.{◌∙◌, inl, inr}
use mathlib.Core.List.{List, [], ◌∷◌}
use Rattle.matrix.specs.Answers.{Holding}
use Rattle.matrix.specs.Names.{name_of}
use Rattle.matrix.specs.Rights.{right_of}
use Rattle.matrix.specs.State.{held}
use Rattle.matrix.specs.Tests.{first_failed}
use Rattle.matrix.specs.Shape.{limits, shape_of}
use Rattle.matrix.specs.Reading.{Content, content, content_of, bytes_of}
use Rattle.matrix.specs.Record.{record_refusal}
use Rattle.matrix.specs.CommandList.{well_formed}
use Rattle.matrix.specs.Calls.{question_fits, held_refusal, held_answer, run_refusal, ran_on, run_answer, run_bytes}
use Rattle.laws.specs.Tests.{clash, holds, and_left}
use Rattle.question.specs.Safety.{Safety}
use Rattle.question.specs.Asked.{trust_fits, list_room, SafeRecord, Written, Decided, Answers}
use Rattle.steps.specs.Runs.{leaks_unsafe}
use Rattle.demands.specs.First.{condition, Condition, NoneHolds}
use Rattle.demands.specs.FirstLaws.{none_before, none_after, none_both}
use Rattle.demands.specs.Printed.{record_conditions, safety_conditions}
use Rattle.demands.proofs.Refusals.{record_numbered, run_numbered, safety_numbered}
use Rattle.demands.specs.Records.{Sound, sound_record, sound_run, content_read, bytes_pass}
use Rattle.demands.specs.Demand3.{list_in, LeaksRight, Leaks, Decides, Demand3}

abbrev is_safe : Safety → Bool
is_safe Safety.Safe = true
is_safe (Safety.Leaks commands) = false
is_safe (Safety.Refused k) = false

-- a record that holds a valid state, asked whether a right is held that its state has
held_yes : (m : Content) (s o right : ℕ) → Sound m → question_fits m.shape s o right ≡ true
    → held m.state (right_of right) s (name_of m.shape.n o) ≡ true → held_answer limits (bytes_of m) s o right ≡ Holding.Yes
unfolding held_answer held_refusal first_failed
held_yes m s o right sound fits has =
    let pass : record_refusal limits (bytes_of m) ≡ 0 = bytes_pass m sound in
    let read : content_of (bytes_of m) ≡ m = content_read m sound in
    let fit : question_fits (shape_of (bytes_of m)) s o right ≡ true = ap (λ (c : Content). question_fits c.shape s o right) read ∙ fits in
    let yes = ap (λ (c : Content). held c.state (right_of right) s (name_of c.shape.n o)) read ∙ has in
    rw (pass, fit, yes) refl

module _ (b : List ℕ) (mask s o right : ℕ) (out out' : List ℕ) (r : Safety) (answers : Answers limits b mask s o right out out' r) (none : NoneHolds (safety_conditions b mask s o right (length out))) where
  abbrev later : List Condition
  later =
      condition 7 ((question_fits (shape_of b) s o right && trust_fits (shape_of b) mask) ≡ false) ∷
      condition 15 (length out < list_room ((shape_of b).n + 2)) ∷ []

  of_record : NoneHolds (record_conditions b)
  of_record = none_before (record_conditions b) later none

  before : Sound (content_of b)
  before = sound_record b ((record_numbered b).answered.1 of_record)

  fits : question_fits (shape_of b) s o right ≡ true
  fits = and_left (question_fits (shape_of b) s o right) (trust_fits (shape_of b) mask) (holds _ (none_after (record_conditions b) later none).0)

  decided : Decided b mask s o right out out' r
  decided = answers.decided ((safety_numbered b mask s o right (length out)).answered.1 none)

  module _ (commands : ℕ) (w : Written b mask s o right out out' commands) where
    l : List ℕ
    l = list_in commands out'

    run_passes : run_refusal limits b l ≡ 0
    unfolding l
    run_passes = (run_numbered b l).answered.1 (none_both (record_conditions b) (condition 16 (well_formed l ≡ false) ∷ []) of_record (λ e. clash w.formed e, tt))

    run_whole : run_answer limits b l ≡ record { accepted = commands; refusal = 0 }
    unfolding l run_answer
    run_whole = rw run_passes (λ i. record { accepted = (w.leaks.whole ∙ w.number) i; refusal = w.leaks.accepted i })

    run_leaves : run_bytes limits b l ≡ bytes_of (content (shape_of b) (ran_on b l).state)
    unfolding run_bytes
    run_leaves = rw run_passes refl

    leaks_right : LeaksRight b mask s o right out out' commands
    unfolding l
    leaks_right =
        record {
          run = run_whole;
          begun = w.leaks.begun;
          few = subst (λ (k : ℕ). k ≤ (shape_of b).n + 2) w.number w.leaks.few;
          held = ap (λ (x : List ℕ). held_answer limits x s o right) run_leaves ∙ held_yes (content (shape_of b) (ran_on b l).state) s o right (sound_run b l before) fits w.leaks.reached;
          later = w.later;
        }

  safe_so : Decided b mask s o right out out' r → r ≡ Safety.Safe → SafeRecord b mask s o right
  safe_so (inl d) e = d.2
  safe_so (inr d) e = absurd (clash (ap is_safe e) (ap is_safe d.1))

  so_safe : Decided b mask s o right out out' r → SafeRecord b mask s o right → r ≡ Safety.Safe
  so_safe (inl d) safe = d.0
  so_safe (inr d) safe = absurd (leaks_unsafe d.2.leaks safe)

  unchanged : Decided b mask s o right out out' r → r ≡ Safety.Safe → out' ≡ out
  unchanged (inl d) e = d.1
  unchanged (inr d) e = absurd (clash (ap is_safe e) (ap is_safe d.1))

  leaks_so : Decided b mask s o right out out' r → r ≢ Safety.Safe → Leaks b mask s o right out out' r
  leaks_so (inl d) not = absurd (not d.0)
  leaks_so (inr d) not = (d.0, d.1, leaks_right d.0 d.2)

  decides : Decides b mask s o right out out' r
  decides = record { safe = (safe_so decided, so_safe decided); untouched = unchanged decided; leaks = leaks_so decided }

pub demand_3 : Demand3
demand_3 = record { decides = decides }
