-- After the answer "leaks" the list stands at the buffer's start, of the right form and within the buffer.
use Rattle.std.specs.Prelude.{ℕ, ◌≤◌, ◌≡◌, ◌⊎◌, true, false, List, leb, eqb, length, take}
use Rattle.std.proofs.Common.{arith, sym, ◌∙◌, inl, inr, ⊎_elim, length-take, leb-true, leb-false, eqb-true}
use Rattle.std.proofs.lemmas.Bool.{eqb-false}
use Rattle.matrix.specs.Shape.{limits}
use Rattle.matrix.specs.CommandList.{well_formed, commands_in}
use Rattle.question.specs.Safety.{Safety}
use Rattle.question.specs.Safety.{Safe, Leaks, Refused}
use Rattle.question.specs.Asked.{Written, Decided, Answers, safety_refusal, list_room}
use Rattle.laws.specs.Tests.{way}
use Rattle.lists.specs.Formed.{formed, length_commands}
use Rattle.asking.specs.Input.{most_input, question_bytes, AnswersInput}

pub record Stands (out : List ℕ) (commands : ℕ) : Type 0 where
  pub right : well_formed (take (list_room commands) out) ≡ true
  pub within : list_room commands ≤ length out

refused_no : {k commands : ℕ} → Leaks commands ≡ Refused k → ⊥
refused_no h = let z : ◌≡◌ {A = ℕ} 0 1 = cc in omega arith

safe_no : {commands : ℕ} → Leaks commands ≡ Safe → ⊥
safe_no h = let z : ◌≡◌ {A = ℕ} 0 1 = cc in omega arith

module _ {b : List ℕ} {mask s o right : ℕ} {out out' : List ℕ} where
  written_stands : (commands : ℕ) → Written b mask s o right out out' commands → Stands out' commands
  written_stands commands w =
      let l : List ℕ = take (list_room commands) out' in
      let f = formed l w.formed in
      let e : commands_in l ≡ commands = sym (length_commands l 0 (commands_in l)) ∙ w.number in
      record { right = w.formed; within = omega (arith, f.size, f.whole, e, length-take (list_room commands) out') }

  decided_stands : (commands : ℕ) → Decided b mask s o right out out' (Leaks commands) → Stands out' commands
  decided_stands commands (inl d) = absurd (safe_no d.0)
  decided_stands commands (inr d) = let same : commands ≡ d.0 = cc in rw same (written_stands d.0 d.2)

  answers_stands : (commands : ℕ) → Answers limits b mask s o right out out' (Leaks commands) → Stands out' commands
  answers_stands commands a =
      ⊎_elim (λ t. decided_stands commands (a.decided (eqb-true _ 0 t))) (λ t. absurd (refused_no (a.refused (eqb-false _ 0 t)).0)) (way (eqb (safety_refusal limits b mask s o right (length out)) 0))

pub list_stands : (input : List ℕ) {out out' : List ℕ} {r : Safety} (commands : ℕ) → AnswersInput input out out' r → r ≡ Leaks commands → Stands out' commands
list_stands input {out} {out'} commands a e = go (way (leb question_bytes (length input))) (way (leb (length input) most_input))
  where
    b : AnswersInput input out out' (Leaks commands)
    b = rw e at a

    go : (leb question_bytes (length input) ≡ true) ⊎ (leb question_bytes (length input) ≡ false) → (leb (length input) most_input ≡ true) ⊎ (leb (length input) most_input ≡ false) → Stands out' commands
    go (inr t) u = absurd (refused_no (b.short (leb-false question_bytes _ t)).0)
    go (inl t) (inr u) = absurd (refused_no (b.long (leb-false _ most_input u)).0)
    go (inl t) (inl u) = answers_stands commands (b.asked (leb-true question_bytes _ t) (leb-true _ most_input u))
