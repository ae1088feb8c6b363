-- The program's input (Manual 10.2): a record, and the question in the last 11 bytes. Over 65,536 bytes are refused by 4, under 11 by 1.
use Rattle.std.specs.Prelude.{ℕ, ◌+◌, ◌-◌, ◌≤◌, ◌<◌, ◌≡◌, refl, List, length, get_or, take}
use Rattle.std.proofs.Common.{arith}
use Rattle.matrix.specs.Bytes.{number_at}
use Rattle.matrix.specs.Shape.{limits}
use Rattle.question.specs.Safety.{Safety}
use Rattle.question.specs.Safety.{Refused}
use Rattle.question.specs.Asked.{Answers}

-- the most bytes of the input, and the bytes of the question at its end
abbrev pub most_input : ℕ
most_input = 65536

abbrev pub question_bytes : ℕ
question_bytes = 11

-- where the question starts
abbrev pub tail_at : List ℕ → ℕ
tail_at input = length input - question_bytes

pub record AnswersInput (input out out' : List ℕ) (r : Safety) : Type 0 where
  pub long : most_input < length input → (r ≡ Refused 4) × (out' ≡ out)
  pub short : length input < question_bytes → (r ≡ Refused 1) × (out' ≡ out)
  pub asked : question_bytes ≤ length input → length input ≤ most_input
      → Answers limits (take (tail_at input) input) (number_at input (tail_at input) 8) (get_or input (tail_at input + 8) 0) (get_or input (tail_at input + 9) 0) (get_or input (tail_at input + 10) 0) out out' r

module _ (input out : List ℕ) where
  pub too_long : most_input < length input → AnswersInput input out out (Refused 4)
  too_long h = record { long = λ l. (refl, refl); short = λ l. absurd (omega arith); asked = λ l u. absurd (omega arith) }

  pub too_short : length input < question_bytes → AnswersInput input out out (Refused 1)
  too_short h = record { long = λ l. absurd (omega arith); short = λ l. (refl, refl); asked = λ l u. absurd (omega arith) }

  pub asked_so : {out' : List ℕ} {r : Safety} {mask s o right : ℕ} → question_bytes ≤ length input → length input ≤ most_input → mask ≡ number_at input (tail_at input) 8 → s ≡ get_or input (tail_at input + 8) 0 → o ≡ get_or input (tail_at input + 9) 0 → right ≡ get_or input (tail_at input + 10) 0
      → Answers limits (take (tail_at input) input) mask s o right out out' r → AnswersInput input out out' r
  asked_so {out'} {r} l u e f g h a =
      record { long = λ z. absurd (omega arith); short = λ z. absurd (omega arith); asked = λ y z. rw (← e, ← f, ← g, ← h) a }
