-- What a command on a record of the right form comes to.
use Rattle.std.specs.Prelude.{ℕ, ◌≡◌, cond, List, eqb}
use Rattle.matrix.specs.declared.Fields.{Fields}
use Rattle.matrix.specs.declared.Command.{Command}
use Rattle.matrix.specs.Answers.{Answer}
use Rattle.matrix.specs.Changes.{change}
use Rattle.matrix.specs.Step.{answer, refusal_of, links_with}
use Rattle.matrix.specs.Shape.{shape_of}
use Rattle.matrix.specs.Reading.{state_of}
use Rattle.matrix.specs.Calls.{refusal_on, links_on, next_on}
use Rattle.bits.specs.Became.{Became}

-- the answer r is the definition's, and the bytes b' are read as the definition's next state
pub record Answered (b b' : List ℕ) (c : Fields) (r : Answer) : Type 0 where
  pub reply : r ≡ answer (refusal_on (shape_of b) (state_of b) c) (links_on (shape_of b) (state_of b) c)
  pub became : Became b b' (next_on (shape_of b) (state_of b) c)

-- the same of a decoded command
pub record Carried (b b' : List ℕ) (d : Command) (r : Answer) : Type 0 where
  pub reply : r ≡ answer (refusal_of (state_of b) d) (links_with (refusal_of (state_of b) d) (state_of b) d)
  pub became : Became b b' (cond (eqb (refusal_of (state_of b) d) 0) (change (state_of b) d d.act) (state_of b))
