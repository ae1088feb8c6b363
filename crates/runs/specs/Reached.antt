-- What a list run on a record of the right form comes to, and how far it has got.
use Rattle.std.specs.Prelude.{ℕ, ◌+◌, ◌≡◌, List, length}
use Rattle.matrix.specs.declared.Fields.{Fields}
use Rattle.matrix.specs.Answers.{Answer, Outcome}
use Rattle.matrix.specs.Numbers.{command_numbers}
use Rattle.matrix.specs.declared.Shape.{Shape}
use Rattle.matrix.specs.State.{State}
use Rattle.matrix.specs.Shape.{shape_of}
use Rattle.matrix.specs.Valid.{Valid}
use Rattle.matrix.specs.Reading.{state_of}
use Rattle.matrix.specs.Calls.{Ran, run_from, ran_on}
use Rattle.cells.specs.Station.{Station}
use Rattle.bits.specs.Became.{Became}

-- a run that ends with this reply to a command has its refusal, after so many commands that were accepted
abbrev pub counted : Answer → ℕ → Outcome
counted reply accepted = record { accepted = accepted; refusal = (command_numbers reply).refusal }

-- the run's outcome and bytes b' are the definition's
pub record RunOn (b b' l : List ℕ) (r : Outcome) : Type 0 where
  pub outcome : r ≡ record { accepted = (ran_on b l).accepted; refusal = (ran_on b l).refusal }
  pub became : Became b b' (ran_on b l).state

-- After j of the commands `all`: the bytes b are still valid, and the commands that are left come to the same on them as all of them do on the
-- bytes b₀. What commands come to on a state, j of them before it, is `end j`.
pub record Reached {A : Type 0} (end : ℕ → State → List Fields → A) (b₀ b : List ℕ) (f : Shape) (j : ℕ) (left all : List Fields) : Type 0 where
  pub station : Station b f
  pub valid : Valid (state_of b)
  pub shape : shape_of b ≡ shape_of b₀
  pub size : length b ≡ length b₀
  pub counted : j + length left ≡ length all
  pub rest : end j (state_of b) left ≡ end 0 (state_of b₀) all

-- what a run comes to
abbrev pub ran_from : List ℕ → ℕ → State → List Fields → Ran
ran_from b₀ j S cs = run_from j (shape_of b₀) S cs
