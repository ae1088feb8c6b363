-- Laws of the numbers: those of an answer that is known, and room for the number of commands among them.
use Rattle.std.specs.Prelude.{ℕ, ◌+◌, ◌≤◌, ◌≡◌, refl, ◌⊎◌, Bool, true, false, List, eqb, take, Option, Some, None, Ok, IfSome}
use Rattle.std.proofs.Common.{arith, sym, ◌∙◌, inl, inr, true≢false, eqb-true}
use Rattle.std.proofs.Math.Path.{ap}
use Rattle.std.proofs.Math.ListN.{length, get_or}
use Rattle.std.proofs.lemmas.Bool.{eqb-false}
use Rattle.matrix.specs.Shape.{limits, shape_of}
use Rattle.matrix.specs.Shaped.{Octets}
use Rattle.matrix.specs.CommandList.{commands_of, most_list_bytes}
use Rattle.matrix.specs.Numbers.{numbers}
use Rattle.matrix.specs.Refusals.{one_more}
use Rattle.laws.specs.Tests.{way}
use Rattle.question.specs.Safety.{Safety}
use Rattle.question.specs.Safety.{Safe, Leaks, Refused, safety_of}
use Rattle.question.specs.Asked.{list_room, safety_refusal, Decided, Answers}
use Rattle.question.specs.Numbers.{safety_numbers}
use Rattle.bunvespo.specs.Numbers.{AnswersNumbers}

module _ {b : List ℕ} {mask s o right : ℕ} {out out' : List ℕ} {r : Safety} (h : Answers limits b mask s o right out out' r) where
  pub answers_numbers : {q : Safety} → r ≡ q → AnswersNumbers b mask s o right out out' (safety_numbers q)
  answers_numbers e = record { answer = r; answers = h; is = ap safety_numbers (sym e) }

  abbrev is_leak : Safety → Bool
  is_leak Safe = false
  is_leak (Leaks k) = true
  is_leak (Refused k) = false

  abbrev number : Safety → ℕ
  number Safe = 0
  number (Leaks k) = k
  number (Refused k) = 0

  -- the commands of a leak are at most n + 2, and n is a byte
  pub few_commands : Octets b → (commands : ℕ) → r ≡ Leaks commands → commands ≤ 257
  unfolding shape_of
  few_commands octets commands e = go (way (eqb (safety_refusal limits b mask s o right (length out)) 0))
    where
      said : Decided b mask s o right out out' r → commands ≤ 257
      said (inl d) = absurd (true≢false (sym (ap is_leak e) ∙ ap is_leak d.0))
      said (inr d) =
          let same : commands ≡ d.0 = ap number (sym e ∙ d.1) in
          let some : length (commands_of (take (list_room d.0) out')) ≡ d.0 = d.2.number in
          let few : length (commands_of (take (list_room d.0) out')) ≤ get_or b 5 0 + 2 = d.2.leaks.few in
          omega (arith, octets.octet 5)

      go : (eqb (safety_refusal limits b mask s o right (length out)) 0 ≡ true) ⊎ (eqb (safety_refusal limits b mask s o right (length out)) 0 ≡ false) → commands ≤ 257
      go (inl q) = said (h.decided (eqb-true _ 0 q))
      go (inr q) = absurd (true≢false (sym (ap is_leak e) ∙ ap is_leak (h.refused (eqb-false _ 0 q)).0))

-- so the commands of an answer in code are few
pub few_found : {b : List ℕ} {mask s o right : ℕ} {out out' : List ℕ} (found : Option ℕ) → Answers limits b mask s o right out out' (safety_of (Ok found)) → Octets b → IfSome found (λ n. n ≤ most_list_bytes)
few_found None h octets = tt
few_found (Some commands) h octets = omega (arith, few_commands h octets commands refl)

-- and its numbers are those of the answer
pub found_numbers : {b : List ℕ} {mask s o right : ℕ} {out out' : List ℕ} (found : Option ℕ) → Answers limits b mask s o right out out' (safety_of (Ok found)) → AnswersNumbers b mask s o right out out' (numbers 0 (one_more found))
found_numbers None h = answers_numbers h refl
found_numbers (Some commands) h = answers_numbers h refl
