-- What the second stage asks of its caller, and what the verdict on a command says, as the answer in numbers: its refusal, and the links as its value.
use Rattle.std.specs.Prelude.{ℕ, ◌≡◌, true, List}
use Rattle.matrix.specs.declared.Command.{Command}
use Rattle.matrix.specs.declared.Shape.{Shape}
use Rattle.matrix.specs.declared.Numbers.{Numbers}
use Rattle.matrix.specs.State.{State}
use Rattle.matrix.specs.Commands.{kind_of}
use Rattle.matrix.specs.Tests.{kind_fits, permitted, deletable}
use Rattle.matrix.specs.Step.{refusal_of, links_with}
use Rattle.matrix.specs.Reading.{state_of}
use Rattle.rules.specs.Needs.{CommandIn}
use Rattle.verdict.specs.Stages.{late}

-- a command whose o is of the kind needed, whose initiator has the right needed, and which deletes no bit that is not set
pub record Entitled (b : List ℕ) (f : Shape) (c : Command) : Type 0 where
  pub command : CommandIn b f c
  pub kind : kind_fits (kind_of c.act) c.o ≡ true
  pub right : permitted (state_of b) c c.act ≡ true
  pub set : deletable (state_of b) c c.act ≡ true

-- the second stage's first failure, with the links that go with it
pub record JudgedLate (S : State) (c : Command) (v : Numbers) : Type 0 where
  pub refusal : v.refusal ≡ late S c
  pub links : v.value ≡ links_with (late S c) S c

-- the verdict on a command is the definition's refusal, with the links that go with it
pub record Judged (S : State) (c : Command) (v : Numbers) : Type 0 where
  pub refusal : v.refusal ≡ refusal_of S c
  pub links : v.value ≡ links_with (refusal_of S c) S c
