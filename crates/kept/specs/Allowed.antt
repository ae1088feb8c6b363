-- What it means that a command is accepted: each of its tests was passed.
use Rattle.std.specs.Prelude.{◌≡◌, true}
use Rattle.matrix.specs.declared.Act.{Act}
use Rattle.matrix.specs.declared.Command.{Command}
use Rattle.matrix.specs.State.{State, exists}
use Rattle.matrix.specs.Commands.{kind_of}
use Rattle.matrix.specs.Tests.{kind_fits, present, free, permitted, deletable, apart, uncontrolled}
use Rattle.matrix.specs.Step.{refusal_of}
use Rattle.laws.specs.Passed.{tests_passed}

-- the tests of a decoded command that does `a`
pub record Allowed (S : State) (c : Command) (a : Act) : Type 0 where
  pub initiator : exists S c.i ≡ true
  pub kind : kind_fits (kind_of a) c.o ≡ true
  pub there : present S c a ≡ true
  pub absent : free S c a ≡ true
  pub entitled : permitted S c a ≡ true
  pub set : deletable S c a ≡ true
  pub unmet : apart S c a ≡ true
  pub alone : uncontrolled S c a ≡ true

pub allowed : (S : State) (c : Command) → refusal_of S c ≡ 0 → Allowed S c c.act
allowed S c h =
    let p = tests_passed S c h in
    record {
      initiator = p.0;
      kind = p.1.0;
      there = p.1.1.0;
      absent = p.1.1.1.0;
      entitled = p.1.1.1.1.0;
      set = p.1.1.1.1.1.0;
      unmet = p.1.1.1.1.1.1.0;
      alone = p.1.1.1.1.1.1.1.0;
    }
