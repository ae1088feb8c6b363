-- A decoded command's answer and bytes, from the verdict on it.
use Rattle.std.specs.Prelude.{ℕ, ◌≡◌, refl, Bool, true, false, cond, List, eqb}
use Rattle.std.proofs.Common.{sym, ◌∙◌, ap, eq-eqb, ne_eqb}
use Rattle.matrix.specs.declared.Command.{Command}
use Rattle.matrix.specs.Answers.{Accepted, Refused}
use Rattle.matrix.specs.declared.Shape.{Shape}
use Rattle.matrix.specs.State.{State}
use Rattle.matrix.specs.Changes.{change}
use Rattle.matrix.specs.Step.{refusal_of, links_with, answer}
use Rattle.matrix.specs.Reading.{state_of}
use Rattle.rules.specs.Needs.{CommandIn}
use Rattle.matrix.specs.declared.Numbers.{Numbers}
use Rattle.verdict.specs.Judged.{Judged}
use Rattle.bits.specs.Became.{Became}
use Rattle.short_ways.specs.Answered.{Carried}

-- the answer that a verdict v makes, where its refusal is zero (t) or not
replied : {S : State} {d : Command} {v : Numbers} {t : Bool} → Judged S d v → eqb v.refusal 0 ≡ t → cond t (Accepted v.value) (Refused v.refusal v.value) ≡ answer (refusal_of S d) (links_with (refusal_of S d) S d)
replied {v = v} j e = sym (ap (λ (t : Bool). cond t (Accepted v.value) (Refused v.refusal v.value)) e) ∙ (λ i. answer (j.refusal i) (j.links i))

pub carried_refused : {b : List ℕ} {f : Shape} {d : Command} {v : Numbers} → CommandIn b f d → Judged (state_of b) d v → (v.refusal ≡ 0 → ⊥) → Carried b b d (Refused v.refusal v.value)
carried_refused {b} {d = d} {v = v} h j ne =
    let e : eqb v.refusal 0 ≡ false = ne_eqb v.refusal 0 ne in
    let f : eqb (refusal_of (state_of b) d) 0 ≡ false = ap (λ (m : ℕ). eqb m 0) (sym j.refusal) ∙ e in
    record {
      reply = replied j e;
      became =
          record {
            shaped = h.station.shaped;
            octets = h.station.octets;
            shape = refl;
            state = sym (ap (λ (t : Bool). cond t (change (state_of b) d d.act) (state_of b)) f);
          };
    }

pub carried_accepted : {b b' : List ℕ} {d : Command} {v : Numbers} → Judged (state_of b) d v → v.refusal ≡ 0 → Became b b' (change (state_of b) d d.act) → Carried b b' d (Accepted v.value)
carried_accepted {b} {b'} {d} {v} j z h =
    let e : eqb v.refusal 0 ≡ true = eq-eqb v.refusal 0 z in
    let f : eqb (refusal_of (state_of b) d) 0 ≡ true = ap (λ (m : ℕ). eqb m 0) (sym j.refusal) ∙ e in
    record {
      reply = replied j e;
      became =
          record {
            shaped = h.shaped;
            octets = h.octets;
            shape = h.shape;
            state = h.state ∙ sym (ap (λ (t : Bool). cond t (change (state_of b) d d.act) (state_of b)) f);
          };
    }
