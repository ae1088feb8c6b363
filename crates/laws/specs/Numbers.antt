-- The answers in numbers: those of an answer that is made from numbers, and those of each call's answer, which are the definition's results.
use Rattle.std.specs.Prelude.{ℕ, ◌≡◌, refl, Bool, true, false, cond, List, eqb}
use Rattle.std.proofs.Common.{sym, ◌∙◌, eqb-true}
use Rattle.std.proofs.Math.Path.{ap}
use Rattle.std.proofs.Math.Logic.{⊎_elim}
use Rattle.matrix.specs.declared.Fields.{Fields}
use Rattle.matrix.specs.Answers.{Answer}
use Rattle.matrix.specs.Answers.{Holding}
use Rattle.matrix.specs.Answers.{Outcome}
use Rattle.matrix.specs.declared.Numbers.{Numbers}
use Rattle.matrix.specs.Numbers.{truth, numbers, held_numbers, command_numbers, run_numbers}
use Rattle.matrix.specs.Step.{answer}
use Rattle.matrix.specs.Shape.{limits, shape_of}
use Rattle.matrix.specs.Reading.{state_of}
use Rattle.matrix.specs.Record.{record_refusal}
use Rattle.matrix.specs.Calls.{held_refusal, holds_on, held_answer, held_result, refusal_on, links_on, command_answer, command_result, run_refusal, run_answer, run_result}
use Rattle.laws.specs.Tests.{way}
use mir.Val.{bool_byte}

-- a test as a number, in the definitions and in the code
pub digit : (t : Bool) → truth t ≡ bool_byte t
digit true = refl
digit false = refl

pub answer_numbers : (number links : ℕ) → command_numbers (answer number links) ≡ numbers number links
answer_numbers number links =
    ⊎_elim (λ e. rw e (ap (λ (m : ℕ). numbers m links) (sym (eqb-true number 0 e)))) (λ e. rw e refl) (way (eqb number 0))

-- the number alone
pub answer_number : (number links : ℕ) → (command_numbers (answer number links)).refusal ≡ number
answer_number number links = ap (λ (r : Numbers). r.refusal) (answer_numbers number links)

-- yes or no in numbers
pub said : (t : Bool) → held_numbers (cond t Holding.Yes Holding.No) ≡ numbers 0 (truth t)
said true = refl
said false = refl

module _ (b : List ℕ) where
  held_case : (s o right : ℕ) → held_numbers (held_answer limits b s o right) ≡ held_result limits b s o right
  unfolding held_answer held_result
  held_case s o right =
      let number = held_refusal limits b s o right in
      let yes = truth (holds_on b s o right) in
      ⊎_elim (λ e. rw e (said (holds_on b s o right) ∙ ap (λ (m : ℕ). numbers m yes) (sym (eqb-true number 0 e)))) (λ e. rw e refl) (way (eqb number 0))

  command_case : (c : Fields) → command_numbers (command_answer limits b c) ≡ command_result limits b c
  unfolding command_answer command_result
  command_case c =
      let step = answer_numbers (refusal_on (shape_of b) (state_of b) c) (links_on (shape_of b) (state_of b) c) in
      ⊎_elim (λ e. rw e step) (λ e. rw e refl) (way (eqb (record_refusal limits b) 0))

  run_case : (l : List ℕ) → run_numbers (run_answer limits b l) ≡ run_result limits b l
  unfolding run_answer run_result
  run_case l = ⊎_elim (λ e. rw e refl) (λ e. rw e refl) (way (eqb (run_refusal limits b l) 0))

  -- an answer that is the definition's has the definition's numbers
  pub held_numbers_lem : (s o right : ℕ) {r : Holding} → r ≡ held_answer limits b s o right → held_numbers r ≡ held_result limits b s o right
  held_numbers_lem s o right h = ap held_numbers h ∙ held_case s o right

  pub command_numbers_lem : (c : Fields) {r : Answer} → r ≡ command_answer limits b c → command_numbers r ≡ command_result limits b c
  command_numbers_lem c h = ap command_numbers h ∙ command_case c

  pub run_numbers_lem : (l : List ℕ) {r : Outcome} → r ≡ run_answer limits b l → run_numbers r ≡ run_result limits b l
  run_numbers_lem l h = ap run_numbers h ∙ run_case l
