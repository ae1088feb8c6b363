-- A safety question that is turned down, and one that is decided.
use Rattle.std.specs.Prelude.{ℕ, ◌+◌, ◌≤◌, ◌<◌, ◌≡◌, Bool, true, false, cond, ◌&&◌, List, eqb, leb, length}
use Rattle.std.proofs.Common.{arith, sym, ◌∙◌, ap, inl, inr, ne_eqb, le-leb}
use Rattle.std.proofs.Math.Path.{refl}
use Rattle.std.proofs.lemmas.Bool.{lt-leb}
use Rattle.matrix.specs.Tests.{first_failed}
use Rattle.matrix.specs.Shape.{limits, shape_of}
use Rattle.matrix.specs.Record.{record_refusal}
use Rattle.matrix.specs.Calls.{question_fits}
use Rattle.question.specs.Safety.{Safety}
use Rattle.question.specs.Safety.{Refused}
use Rattle.question.specs.Numbers.{safety_numbers}
use Rattle.question.specs.Asked.{trust_fits, list_room, safety_refusal, Decided, Answers}

module _ (b : List ℕ) (mask s o right : ℕ) (out : List ℕ) where
  -- the refusal from the answers of its three tests
  by_record : eqb (record_refusal limits b) 0 ≡ false → safety_refusal limits b mask s o right (length out) ≡ record_refusal limits b
  unfolding safety_refusal first_failed
  by_record h = rw h refl

  by_tests : {t u : Bool} → record_refusal limits b ≡ 0 → (question_fits (shape_of b) s o right && trust_fits (shape_of b) mask) ≡ t → leb (list_room ((shape_of b).n + 2)) (length out) ≡ u
      → safety_refusal limits b mask s o right (length out) ≡ cond t (cond u 0 15) 7
  unfolding safety_refusal first_failed
  by_tests h e f = rw (h, e, f) refl

  -- an answer that decides the question is no refusal
  decided_number : {out' : List ℕ} {r : Safety} → Decided b mask s o right out out' r → (safety_numbers r).refusal ≡ 0
  decided_number (inl d) = ap (λ (r : Safety). (safety_numbers r).refusal) d.0
  decided_number (inr d) = ap (λ (r : Safety). (safety_numbers r).refusal) d.1

  -- turned down by the number m
  turned_by : {m : ℕ} → m ≡ safety_refusal limits b mask s o right (length out) → (m ≡ 0 → ⊥) → Answers limits b mask s o right out out (Refused m)
  turned_by e ne = record { refused = λ h. (ap Refused e, refl); decided = λ h. absurd (ne (e ∙ h)); number = e; size = refl }

  pub turned_record : {m : ℕ} → m ≡ record_refusal limits b → (m ≡ 0 → ⊥) → Answers limits b mask s o right out out (Refused m)
  turned_record e ne = turned_by (e ∙ sym (by_record (ne_eqb (record_refusal limits b) 0 (λ z. ne (e ∙ z))))) ne

  module _ (valid : record_refusal limits b ≡ 0) where
    pub turned_seven : {t : Bool} → t ≡ (question_fits (shape_of b) s o right && trust_fits (shape_of b) mask) → t ≡ false → Answers limits b mask s o right out out (Refused 7)
    turned_seven e h = turned_by (sym (by_tests valid (sym e ∙ h) refl)) (λ z. omega arith)

    module _ {t : Bool} (fits : t ≡ (question_fits (shape_of b) s o right && trust_fits (shape_of b) mask)) (fit : t ≡ true) where
      pub turned_fifteen : length out < list_room ((shape_of b).n + 2) → Answers limits b mask s o right out out (Refused 15)
      turned_fifteen l = turned_by (sym (by_tests valid (sym fits ∙ fit) (lt-leb (list_room ((shape_of b).n + 2)) (length out) l))) (λ z. omega arith)

      pub answers : {out' : List ℕ} {r : Safety} → list_room ((shape_of b).n + 2) ≤ length out → Decided b mask s o right out out' r → length out' ≡ length out → Answers limits b mask s o right out out' r
      answers l d e =
          let z : safety_refusal limits b mask s o right (length out) ≡ 0 = by_tests valid (sym fits ∙ fit) (le-leb (list_room ((shape_of b).n + 2)) (length out) l) in
          record { refused = λ h. absurd (h z); decided = λ h. d; number = decided_number d ∙ sym z; size = e }
