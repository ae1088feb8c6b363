-- Demand 1 holds.
use Rattle.std.specs.Prelude.{ℕ, ◌≡◌, ◌≢◌, ◌↔◌, Bool, ◌&&◌, eqb, length}
use Rattle.std.proofs.Math.Path.{refl, sym, ap}
use Rattle.std.proofs.Common.{◌∙◌, subst, inl, inr}
use Rattle.std.proofs.Math.Logic.{⊎_elim}
use Rattle.std.proofs.Math.Bool.{true, false, cond}
use Rattle.std.proofs.lemmas.Bool.{false≢true}
use mathlib.Core.List.{List, [], ◌∷◌}
use borrow.Author.Tests.{eqb-true, eqb-false, eq-eqb}
use Rattle.matrix.specs.declared.Name.{Name}
use Rattle.matrix.specs.declared.Right.{Right}
use Rattle.matrix.specs.declared.Fields.{Fields}
use Rattle.matrix.specs.Answers.{Answer}
use Rattle.matrix.specs.Answers.{Holding}
use Rattle.matrix.specs.declared.Numbers.{Numbers}
use Rattle.matrix.specs.Names.{name_of}
use Rattle.matrix.specs.Numbers.{numbers, held_numbers, command_numbers}
use Rattle.matrix.specs.Rights.{right_of, held_by}
use Rattle.matrix.specs.State.{State, has, has_one}
use Rattle.matrix.specs.Step.{answer}
use Rattle.matrix.specs.Shape.{limits, shape_of}
use Rattle.matrix.specs.Reading.{state_of}
use Rattle.matrix.specs.Record.{record_refusal}
use Rattle.matrix.specs.Calls.{valid_answer, question_fits, held_refusal, holds_on, held_answer, held_result, refusal_on, links_on, command_answer, command_result, command_bytes}
use Rattle.laws.specs.Tests.{way, clash, fails, or_cases}
use Rattle.laws.specs.Numbers.{answer_number, held_numbers_lem, command_numbers_lem}
use Rattle.owners.proofs.Read.{valid_record}
use Rattle.question.specs.Safety.{Safety}
use Rattle.question.specs.Numbers.{safety_numbers}
use Rattle.question.specs.Asked.{safety_refusal, Decided, Answers}
use Rattle.demands.specs.First.{condition, NoneHolds, Numbered}
use Rattle.demands.specs.FirstLaws.{numbered_then, numbered_among, none_before}
use Rattle.demands.specs.Printed.{record_conditions, command_conditions, held_conditions, given_conditions, safety_conditions}
use Rattle.demands.proofs.Refusals.{record_numbered, command_numbered, held_numbered, safety_numbered}
use Rattle.demands.proofs.RunHolds.{run_right}
use Rattle.demands.specs.Demand1.{AbsentName, HeldRight, CommandRight, SafetyRight, Demand1}

-- ---- held

-- a right that is held has a bit set
one_bit : (S : State) (ys : List Right) (w : ℕ) (x : Name) → has_one S ys w x ≡ true → (z : Right) × (has S z w x ≡ true)
one_bit S [] w x h = absurd (false≢true h)
one_bit S (y ∷ ys) w x h = ⊎_elim (λ e. (y, e)) (λ e. one_bit S ys w x e) (or_cases (has S y w x) (has_one S ys w x) h)

-- whether an answer is a refusal
abbrev holding_refused : Holding → Bool
holding_refused Holding.Yes = false
holding_refused Holding.No = false
holding_refused (Holding.Refused k) = true

abbrev command_refused : Answer → Bool
command_refused (Answer.Accepted links) = false
command_refused (Answer.Refused number links) = true

said : (t : Bool) → holding_refused (cond t Holding.Yes Holding.No) ≡ false
said true = refl
said false = refl

module _ (b : List ℕ) (s o right : ℕ) where
  held_number : (held_numbers (held_answer limits b s o right)).refusal ≡ held_refusal limits b s o right
  unfolding held_result
  held_number = ap (λ (r : Numbers). r.refusal) (held_numbers_lem b s o right refl)

  -- an answer by the refusal 0 is no refusal
  held_some : held_answer limits b s o right ≢ Holding.Refused 0
  unfolding held_answer
  held_some h =
      let number : held_refusal limits b s o right ≡ 0 = sym held_number ∙ ap (λ (r : Holding). (held_numbers r).refusal) h in
      clash (ap holding_refused h) (rw number (said (holds_on b s o right)))

  held_absent : NoneHolds (held_conditions b s o right) → AbsentName b s o → held_answer limits b s o right ≡ Holding.No
  unfolding held_answer
  held_absent none gone =
      let number : held_refusal limits b s o right ≡ 0 = (held_numbered b s o right).answered.1 none in
      let valid : record_refusal limits b ≡ 0 = (record_numbered b).answered.1 (none_before (record_conditions b) (condition 7 (question_fits (shape_of b) s o right ≡ false) ∷ []) none) in
      let not : holds_on b s o right ≡ false = fails (holds_on b s o right) (λ h. bit valid (one_bit (state_of b) (held_by (right_of right)) s (name_of (shape_of b).n o) h) gone) in
      rw (number, not) refl
    where
      bit : record_refusal limits b ≡ 0 → (z : Right) × (has (state_of b) z s (name_of (shape_of b).n o) ≡ true) → AbsentName b s o → ⊥
      bit valid z =
          let v = valid_record b valid in
          ⊎_elim (λ e. clash (v.row z.0 s (name_of (shape_of b).n o) z.1) e) (λ e. clash (v.column z.0 s (name_of (shape_of b).n o) z.1) e)

  pub held_right : HeldRight b s o right
  held_right =
      let n = subst (Numbered (held_conditions b s o right)) (sym held_number) (held_numbered b s o right) in
      record { number = n; only = numbered_among (held_conditions b s o right) n; some = held_some; absent = held_absent }

-- ---- a command

answer_some : (number links followed : ℕ) → answer number links ≢ Answer.Refused 0 followed
answer_some number links followed h =
    let zero : number ≡ 0 = sym (answer_number number links) ∙ ap (λ (r : Answer). (command_numbers r).refusal) h in
    clash (ap command_refused h) (rw zero refl)

module _ (b : List ℕ) (c : Fields) where
  -- the number is the record's refusal, or else the command's
  pub command_number : (command_numbers (command_answer limits b c)).refusal ≡ cond (eqb (record_refusal limits b) 0) (refusal_on (shape_of b) (state_of b) c) (record_refusal limits b)
  unfolding command_result
  command_number = ap (λ (r : Numbers). r.refusal) (command_numbers_lem b c refl) ∙ picked (eqb (record_refusal limits b) 0)
    where
      picked : (t : Bool) → (cond t (numbers (refusal_on (shape_of b) (state_of b) c) (links_on (shape_of b) (state_of b) c)) (numbers (record_refusal limits b) 0)).refusal ≡ cond t (refusal_on (shape_of b) (state_of b) c) (record_refusal limits b)
      picked true = refl
      picked false = refl

  command_some : (links : ℕ) → command_answer limits b c ≢ Answer.Refused 0 links
  unfolding command_answer
  command_some links =
      ⊎_elim (λ e. rw e (answer_some (refusal_on (shape_of b) (state_of b) c) (links_on (shape_of b) (state_of b) c) links))
      (λ e. rw e (λ h. eqb-false (record_refusal limits b) 0 e (ap (λ (r : Answer). (command_numbers r).refusal) h))) (way (eqb (record_refusal limits b) 0))

  command_kept : (command_numbers (command_answer limits b c)).refusal ≢ 0 → command_bytes limits b c ≡ b
  unfolding command_bytes
  command_kept h = either (eqb (record_refusal limits b) 0) (eqb (refusal_on (shape_of b) (state_of b) c) 0) _ (λ e f. h (command_number ∙ rw e (eqb-true _ 0 f)))
    where
      either : (t u : Bool) (x : List ℕ) → (t ≡ true → u ≡ true → ⊥) → cond (t && u) x b ≡ b
      either true true x n = absurd (n refl refl)
      either true false x n = refl
      either false u x n = refl

  pub command_right : CommandRight b c
  command_right =
      let n = subst (Numbered (given_conditions b c)) (sym command_number) (numbered_then (record_conditions b) (command_conditions (shape_of b) (state_of b) c) (record_numbered b) (λ e. command_numbered (shape_of b) (state_of b) c)) in
      record { number = n; only = numbered_among (given_conditions b c) n; some = command_some; kept = command_kept }

-- ---- the safety question

abbrev safety_refused : Safety → Bool
safety_refused Safety.Safe = false
safety_refused (Safety.Leaks commands) = false
safety_refused (Safety.Refused k) = true

module _ (b : List ℕ) (mask s o right : ℕ) (out out' : List ℕ) (r : Safety) (h : Answers limits b mask s o right out out' r) where
  -- a question that is decided is not refused
  decided_so : Decided b mask s o right out out' r → safety_refused r ≡ false
  decided_so (inl d) = ap safety_refused d.0
  decided_so (inr d) = ap safety_refused d.1

  safety_some : r ≢ Safety.Refused 0
  safety_some e =
      let zero : safety_refusal limits b mask s o right (length out) ≡ 0 = sym h.number ∙ ap (λ (r : Safety). (safety_numbers r).refusal) e in
      clash (ap safety_refused e) (decided_so (h.decided zero))

  safety_right : SafetyRight b mask s o right out out' r
  safety_right =
      let n = subst (Numbered (safety_conditions b mask s o right (length out))) (sym h.number) (safety_numbered b mask s o right (length out)) in
      record {
        number = n;
        only = numbered_among (safety_conditions b mask s o right (length out)) n;
        some = safety_some;
        kept = λ some. (h.refused (λ e. some (h.number ∙ e))).1;
      }

-- ---- the demand

valid_right : (b : List ℕ) → (valid_answer limits b ≡ true) ↔ NoneHolds (record_conditions b)
unfolding valid_answer
valid_right b = (λ e. (record_numbered b).answered.0 (eqb-true (record_refusal limits b) 0 e), λ h. eq-eqb (record_refusal limits b) 0 ((record_numbered b).answered.1 h))

pub demand_1 : Demand1
demand_1 = record { valid = valid_right; held = held_right; command = command_right; run = run_right; safety = safety_right }
