-- What a held question on a record of the right form comes to.
use Rattle.std.specs.Prelude.{ℕ, cond, List}
use Rattle.matrix.specs.Answers.{Holding}
use Rattle.matrix.specs.Answers.{Yes, No, Refused}
use Rattle.matrix.specs.Shape.{shape_of}
use Rattle.matrix.specs.Calls.{question_fits, holds_on}

-- 7, then yes or no
unfoldable pub held_on : List ℕ → ℕ → ℕ → ℕ → Holding
held_on b s o right = cond (question_fits (shape_of b) s o right) (cond (holds_on b s o right) Yes No) (Refused 7)
