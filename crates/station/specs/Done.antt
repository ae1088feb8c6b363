-- The definitions of the public calls, from what the crates below answer.
use Rattle.std.specs.Prelude.{ℕ, ◌≡◌, Bool, false, List, length, Result, Ok, Err, is_ok}
use Rattle.std.proofs.Math.Path.{refl, sym}
use Rattle.std.proofs.Common.{◌∙◌, ap, ⊎_elim, ne_eqb}
use Rattle.std.proofs.Math.Bool.{true, cond}
use Rattle.std.proofs.Math.Dec.{eqb}
use Rattle.matrix.specs.declared.Fields.{Fields}
use Rattle.matrix.specs.Answers.{Answer}
use Rattle.matrix.specs.Answers.{Refused}
use Rattle.matrix.specs.Answers.{Outcome}
use Rattle.matrix.specs.declared.Refusal.{Refusal}
use Rattle.matrix.specs.declared.Shape.{Shape}
use Rattle.matrix.specs.Refusals.{refusal_number}
use Rattle.matrix.specs.Numbers.{numbers}
use Rattle.matrix.specs.State.{State}
use Rattle.matrix.specs.Tests.{first_failed}
use Rattle.matrix.specs.Step.{refusal, next}
use Rattle.matrix.specs.Shape.{limits, shape_of}
use Rattle.matrix.specs.Reading.{state_of, content, bytes_of}
use Rattle.matrix.specs.Record.{record_refusal}
use Rattle.matrix.specs.CommandList.{well_formed}
use Rattle.matrix.specs.Calls.{valid_answer, held_answer, refusal_on, next_on, command_answer, command_bytes, run_refusal, run_answer, run_bytes}
use Rattle.matrix.specs.Converting.{convert_refusal, convert_result, convert_output}
use Rattle.laws.specs.Tests.{way}
use Rattle.laws.specs.Refusals.{some_number}
use Rattle.validity.specs.Opens.{Opens}
use Rattle.codec.specs.RoundTrip.{read_write}
use Rattle.cells.specs.Station.{Station}
use Rattle.bits.specs.Became.{Became}
use Rattle.short_ways.specs.Answered.{Answered}
use Rattle.runs.specs.Reached.{RunOn}
use Rattle.holding.specs.Asked.{held_refused}

-- bytes that became a state are that state written in the same shape
pub written : {b b' : List ℕ} {S : State} → Became b b' S → b' ≡ bytes_of (content (shape_of b) S)
written {b' = b'} w = sym (read_write b' w.shaped w.octets) ∙ (λ i. bytes_of (content (w.shape i) (w.state i)))

-- a refused command's state is written as the same bytes
unchanged : {b b' : List ℕ} {f : Shape} → Station b f → Became b b' (state_of b) → b' ≡ b
unchanged {b} h w = written w ∙ read_write b h.shaped h.octets

refused_next : (f : Shape) (S : State) (c : Fields) → eqb (refusal_on f S c) 0 ≡ false → next_on f S c ≡ S
unfolding next_on next refusal_on
refused_next f S c h = rw h refl

module _ {b b' : List ℕ} {f : Shape} {c : Fields} {r : Answer} (valid : record_refusal limits b ≡ 0) (h : Station b f) (w : Answered b b' c r) where
  pub command_reply : r ≡ command_answer limits b c
  unfolding command_answer
  command_reply = rw valid w.reply

  pub command_done : b' ≡ command_bytes limits b c
  unfolding command_bytes
  command_done = rw valid (⊎_elim accepted refused (way (eqb (refusal_on (shape_of b) (state_of b) c) 0)))
    where
      accepted : eqb (refusal_on (shape_of b) (state_of b) c) 0 ≡ true → b' ≡ cond (eqb (refusal_on (shape_of b) (state_of b) c) 0) (bytes_of (content (shape_of b) (next_on (shape_of b) (state_of b) c))) b
      accepted t = written w.became ∙ sym (ap (λ (u : Bool). cond u (bytes_of (content (shape_of b) (next_on (shape_of b) (state_of b) c))) b) t)

      refused : eqb (refusal_on (shape_of b) (state_of b) c) 0 ≡ false → b' ≡ cond (eqb (refusal_on (shape_of b) (state_of b) c) 0) (bytes_of (content (shape_of b) (next_on (shape_of b) (state_of b) c))) b
      refused t =
          let z = w.became in
          unchanged h (record { shaped = z.shaped; octets = z.octets; shape = z.shape; state = z.state ∙ refused_next (shape_of b) (state_of b) c t })
          ∙ sym (ap (λ (u : Bool). cond u (bytes_of (content (shape_of b) (next_on (shape_of b) (state_of b) c))) b) t)

module _ (b : List ℕ) {m : ℕ} (number : m ≡ record_refusal limits b) (turned : m ≡ 0 → ⊥) where
  not_zero : eqb (record_refusal limits b) 0 ≡ false
  not_zero = ne_eqb (record_refusal limits b) 0 (λ e. turned (number ∙ e))

  pub command_turned_down : (c : Fields) → Refused m 0 ≡ command_answer limits b c
  unfolding command_answer
  command_turned_down c = rw not_zero (ap (λ (m : ℕ). Refused m 0) number)

  pub command_kept : (c : Fields) → b ≡ command_bytes limits b c
  unfolding command_bytes
  command_kept c = rw not_zero refl

  pub held_turned_down : (s o right : ℕ) → Rattle.matrix.specs.Answers.Refused m ≡ held_answer limits b s o right
  held_turned_down s o right = ap (λ (m : ℕ). Rattle.matrix.specs.Answers.Refused m) number ∙ held_refused b s o right (λ e. turned (number ∙ e))

  convert_refusal_lem : (v room : ℕ) → convert_refusal limits v b room ≡ record_refusal limits b
  unfolding convert_refusal first_failed
  convert_refusal_lem v room = rw not_zero refl

  pub convert_turned_down : (v : ℕ) (out : List ℕ) → (numbers m 0 ≡ convert_result limits v b out) × (out ≡ convert_output limits v b out)
  unfolding convert_result convert_output
  convert_turned_down v out = (rw (convert_refusal_lem v (length out), not_zero) (ap (λ (m : ℕ). numbers m 0) number), rw (convert_refusal_lem v (length out), not_zero) refl)

  run_refusal_lem : (l : List ℕ) → run_refusal limits b l ≡ record_refusal limits b
  unfolding run_refusal first_failed
  run_refusal_lem l = rw not_zero refl

  pub run_turned_down : (l : List ℕ) → ◌≡◌ {A = Outcome} (record { accepted = 0; refusal = m }) (run_answer limits b l)
  unfolding run_answer
  run_turned_down l = rw (run_refusal_lem l, not_zero) (ap (λ (m : ℕ). record { accepted = 0; refusal = m }) number)

  pub run_kept : (l : List ℕ) → b ≡ run_bytes limits b l
  unfolding run_bytes
  run_kept l = rw (run_refusal_lem l, not_zero) refl

module _ (b l : List ℕ) (valid : record_refusal limits b ≡ 0) where
  list_refusal : {t : Bool} → well_formed l ≡ t → run_refusal limits b l ≡ cond t 0 16
  unfolding run_refusal first_failed
  list_refusal h = rw (valid, h) refl

  pub list_turned_down : well_formed l ≡ false → ◌≡◌ {A = Outcome} (record { accepted = 0; refusal = 16 }) (run_answer limits b l)
  unfolding run_answer
  list_turned_down h = let e : run_refusal limits b l ≡ 16 = list_refusal h in rw e refl

  pub list_kept : well_formed l ≡ false → b ≡ run_bytes limits b l
  unfolding run_bytes
  list_kept h = let e : run_refusal limits b l ≡ 16 = list_refusal h in rw e refl

  module _ {b' : List ℕ} {r : Outcome} (right : well_formed l ≡ true) (w : RunOn b b' l r) where
    pub run_outcome : r ≡ run_answer limits b l
    unfolding run_answer
    run_outcome = let e : run_refusal limits b l ≡ 0 = list_refusal right in rw e w.outcome

    pub run_done : b' ≡ run_bytes limits b l
    unfolding run_bytes
    run_done = let e : run_refusal limits b l ≡ 0 = list_refusal right in rw e (written w.became)

-- a record is valid exactly where it opens
pub valid_opens : {b : List ℕ} (r : Result Shape Refusal) → Opens b r → is_ok r ≡ valid_answer limits b
unfolding valid_answer
valid_opens (Ok f) h = rw (← h.number) refl
valid_opens (Err e) h = rw (← h.number) (sym (ne_eqb (refusal_number e) 0 (some_number e)))
