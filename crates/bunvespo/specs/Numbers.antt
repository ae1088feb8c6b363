-- The answer to a safety question in numbers, where the list that leaks is left free.
use Rattle.std.specs.Prelude.{ℕ, ◌≡◌, List}
use Rattle.matrix.specs.declared.Numbers.{Numbers}
use Rattle.matrix.specs.Shape.{limits}
use Rattle.question.specs.Safety.{Safety}
use Rattle.question.specs.Numbers.{safety_numbers}
use Rattle.question.specs.Asked.{Answers}

-- the numbers are those of an answer to the question
pub record AnswersNumbers (b : List ℕ) (mask s o right : ℕ) (out out' : List ℕ) (r : Numbers) : Type 0 where
  pub answer : Safety
  pub answers : Answers limits b mask s o right out out' answer
  pub is : r ≡ safety_numbers answer
