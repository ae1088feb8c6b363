-- The steps of what goes through a list command by command, and those of a list run.
use Rattle.std.specs.Prelude.{ℕ, suc, ◌+◌, ◌≡◌, Bool, true, false, cond, List, [], ◌∷◌, eqb, length}
use Rattle.std.proofs.Common.{arith, sym, ◌∙◌, ap, subst, ⊎_elim}
use Rattle.std.proofs.Math.Path.{refl}
use Rattle.matrix.specs.declared.Fields.{Fields}
use Rattle.matrix.specs.Answers.{Answer}
use Rattle.matrix.specs.Answers.{Accepted, Refused}
use Rattle.matrix.specs.declared.Shape.{Shape}
use Rattle.matrix.specs.State.{State}
use Rattle.matrix.specs.Numbers.{command_numbers}
use Rattle.matrix.specs.Step.{answer, next}
use Rattle.matrix.specs.Shape.{shape_of}
use Rattle.matrix.specs.Reading.{state_of}
use Rattle.matrix.specs.CommandList.{commands_of}
use Rattle.matrix.specs.Calls.{refusal_on, links_on, next_on, Ran, run_from, ran_on}
use Rattle.matrix.specs.Valid.{Valid}
use Rattle.laws.specs.Tests.{way}
use Rattle.laws.specs.Numbers.{answer_number}
use Rattle.kept.proofs.Keeps.{on_keeps}
use Rattle.states.specs.Needs.{Guessed}
use Rattle.short_ways.specs.Answered.{Answered}
use Rattle.bits.specs.Steps.{station_after, length_after}
use Rattle.runs.specs.Reached.{RunOn, Reached, ran_from}

module _ (f : Shape) (S : State) (c : Fields) (cs : List Fields) (j : ℕ) where
  pub run_accepts : refusal_on f S c ≡ 0 → run_from j f S (c ∷ cs) ≡ run_from (j + 1) f (next_on f S c) cs
  unfolding run_from
  run_accepts h = rw h refl

  run_refuses : eqb (refusal_on f S c) 0 ≡ false → run_from j f S (c ∷ cs) ≡ record { accepted = j; refusal = refusal_on f S c; state = S }
  unfolding run_from
  run_refuses h = rw h refl

run_none : (j : ℕ) (f : Shape) (S : State) → run_from j f S [] ≡ record { accepted = j; refusal = 0; state = S }
unfolding run_from
run_none j f S = refl

-- a refused command leaves the state
refused_state : (f : Shape) (S : State) (c : Fields) → eqb (refusal_on f S c) 0 ≡ false → next_on f S c ≡ S
unfolding next_on next refusal_on
refused_state f S c h = rw h refl

-- before the first command
pub reached_none : {A : Type 0} {end : ℕ → State → List Fields → A} {b owners : List ℕ} {f : Shape} {left all : List Fields} → Guessed b f owners → left ≡ all → Reached end b b f 0 left all
reached_none {end = end} {b} {left = left} {all = all} h e =
    record { station = h.station; valid = h.valid; shape = refl; size = refl; counted = omega (arith, ap length e); rest = ap (end 0 (state_of b)) e }

-- a reply that is refused has a refusal
refused_number : (r l : ℕ) {k x : ℕ} → answer r l ≡ Refused k x → eqb r 0 ≡ false
refused_number r l {k} {x} h = ⊎_elim (λ t. absurd (never t)) (λ t. t) (way (eqb r 0))
  where
    never : eqb r 0 ≡ true → ⊥
    never t =
        let e : Accepted l ≡ Refused k x = sym (ap (λ (b : Bool). cond b (Accepted l) (Refused r l)) t) ∙ h in
        let z : ◌≡◌ {A = ℕ} 0 1 = cc in
        omega arith

-- the next of the commands that are left, answered
module _ {A : Type 0} {end : ℕ → State → List Fields → A} {b₀ b b' : List ℕ} {f : Shape} {j : ℕ} {left all cs : List Fields} {c : Fields} {r : Answer} (h : Reached end b₀ b f j left all) (next_is : left ≡ c ∷ cs) (w : Answered b b' c r) where
  -- the commands that are left, with this one in front
  pub here : end j (state_of b) (c ∷ cs) ≡ end 0 (state_of b₀) all
  here = ap (end j (state_of b)) (sym next_is) ∙ h.rest

  -- the reply and the state after it, at the first record's shape
  reply : r ≡ answer (refusal_on (shape_of b₀) (state_of b) c) (links_on (shape_of b) (state_of b) c)
  reply = w.reply ∙ ap (λ (f : Shape). answer (refusal_on f (state_of b) c) (links_on (shape_of b) (state_of b) c)) h.shape

  after : state_of b' ≡ next_on (shape_of b₀) (state_of b) c
  after = w.became.state ∙ ap (λ (f : Shape). next_on f (state_of b) c) h.shape

  -- its refusal is the reply's
  number_is : (command_numbers r).refusal ≡ refusal_on (shape_of b₀) (state_of b) c
  number_is = ap (λ (a : Answer). (command_numbers a).refusal) reply ∙ answer_number (refusal_on (shape_of b₀) (state_of b) c) (links_on (shape_of b) (state_of b) c)

  pub is_refused : {x k : ℕ} → r ≡ Refused k x → eqb (refusal_on (shape_of b₀) (state_of b) c) 0 ≡ false
  is_refused e = refused_number (refusal_on (shape_of b₀) (state_of b) c) (links_on (shape_of b) (state_of b) c) (sym reply ∙ e)

  -- it is accepted, and by the step of `end` what is left comes to the same on the bytes after it
  pub reached_more : {x : ℕ} → (refusal_on (shape_of b₀) (state_of b) c ≡ 0 → end j (state_of b) (c ∷ cs) ≡ end (j + 1) (next_on (shape_of b₀) (state_of b) c) cs) → r ≡ Accepted x → Reached end b₀ b' f (j + 1) cs all
  reached_more step e =
      let z : refusal_on (shape_of b₀) (state_of b) c ≡ 0 = sym number_is ∙ ap (λ (a : Answer). (command_numbers a).refusal) e in
      record {
        station = station_after h.station w.became;
        valid = subst Valid (sym after) (on_keeps (shape_of b₀) (state_of b) c h.valid);
        shape = w.became.shape ∙ h.shape;
        size = length_after h.station w.became ∙ h.size;
        counted = (let q : length left ≡ suc (length cs) = ap length next_is in let e = h.counted in omega arith);
        rest = ap (λ (S : State). end (j + 1) S cs) after ∙ sym (step z) ∙ here;
      }

-- ---- a run
pub ran_accepted : {b₀ b b' : List ℕ} {f : Shape} {j : ℕ} {left all cs : List Fields} {c : Fields} {r : Answer} {x : ℕ} → Reached (ran_from b₀) b₀ b f j left all → left ≡ c ∷ cs → Answered b b' c r → r ≡ Accepted x
    → Reached (ran_from b₀) b₀ b' f (j + 1) cs all
ran_accepted {b₀} {b} {j = j} {cs = cs} {c = c} h next_is w e = reached_more h next_is w (run_accepts (shape_of b₀) (state_of b) c cs j) e

module _ {b₀ b b' l : List ℕ} {f : Shape} {j : ℕ} {left cs : List Fields} {c : Fields} {r : Answer} (h : Reached (ran_from b₀) b₀ b f j left (commands_of l)) (next_is : left ≡ c ∷ cs) (w : Answered b b' c r) where
  pub ran_refused : {x k number : ℕ} → r ≡ Refused k x → number ≡ (command_numbers r).refusal → RunOn b₀ b' l (record { accepted = j; refusal = number })
  ran_refused {number = number} e d =
      let t : eqb (refusal_on (shape_of b₀) (state_of b) c) 0 ≡ false = is_refused h next_is w e in
      let q : number ≡ refusal_on (shape_of b₀) (state_of b) c = d ∙ number_is h next_is w in
      let g : record { accepted = j; refusal = refusal_on (shape_of b₀) (state_of b) c; state = state_of b } ≡ ran_on b₀ l = sym (run_refuses (shape_of b₀) (state_of b) c cs j t) ∙ here h next_is w in
      record {
        outcome = λ i. record { accepted = (g i).accepted; refusal = (q ∙ ap (λ (x : Ran). x.refusal) g) i };
        became =
            record {
              shaped = w.became.shaped;
              octets = w.became.octets;
              shape = w.became.shape ∙ h.shape;
              state = after h next_is w ∙ refused_state (shape_of b₀) (state_of b) c t ∙ ap (λ (x : Ran). x.state) g;
            };
      }

-- after the last command
pub ran_all : {b₀ b l : List ℕ} {f : Shape} {j : ℕ} {left : List Fields} → Reached (ran_from b₀) b₀ b f j left (commands_of l) → left ≡ [] → RunOn b₀ b l (record { accepted = j; refusal = 0 })
ran_all {b₀} {b} {l} {j = j} h e =
    let g : record { accepted = j; refusal = 0; state = state_of b } ≡ ran_on b₀ l = sym (ap (ran_from b₀ j (state_of b)) e ∙ run_none j (shape_of b₀) (state_of b)) ∙ h.rest in
    record {
      outcome = λ i. record { accepted = (g i).accepted; refusal = (g i).refusal };
      became = record { shaped = h.station.shaped; octets = h.station.octets; shape = h.shape; state = ap (λ (x : Ran). x.state) g };
    }
