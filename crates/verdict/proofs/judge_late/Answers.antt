-- `verdict::judge_late` meets its contract.
use mathlib.Core.Path.{◌≡◌, refl, sym, ◌∙◌, ap}
use mathlib.Core.Bool.{true}
use Rattle.matrix.specs.declared.Right.{Right}
use Rattle.matrix.specs.declared.Act.TheVariants.{Transfer, Grant}
use Rattle.matrix.specs.Tests.{permitted}
use Rattle.matrix.specs.Reading.{state_of}
use Rattle.verdict.specs.Judged.{Entitled}
use Rattle.verdict.specs.Late.{denied, unset, other_judged}
use Rattle.verdict.proofs.judge_late.Goals as goal
use Rattle.verdict.proofs.judge_late.Goals.{Else-not-is_deletable, Else-not-is_permitted}

pub returns-then-not-is_permitted : goal.returns-then-not-is_permitted
returns-then-not-is_permitted c = rw c.into.ensures (denied _ c.args.c (sym c.is_permitted.ensures ∙ c.if-not-is_permitted.true))

-- where the initiator has the right needed
permitted_there : (c : Else-not-is_permitted) → permitted (state_of c.args.b.now) c.args.c c.args.c.act ≡ true
permitted_there c = sym c.is_permitted.ensures ∙ c.if-not-is_permitted.false

pub returns-then-not-is_deletable : goal.returns-then-not-is_deletable
returns-then-not-is_deletable c = rw c.into-then-not-is_deletable.ensures (unset _ c.args.c (permitted_there (goal.at.returns-then-not-is_deletable c).Else-not-is_permitted) (sym c.is_deletable.ensures ∙ c.if-not-is_deletable.true))

-- .. and a bit to be deleted is set
entitled : (c : Else-not-is_deletable) → Entitled c.args.b.now c.args.f c.args.c
entitled c =
    record {
      command = c.requires.0;
      kind = c.requires.1;
      right = (sym c.is_permitted.ensures ∙ c.if-not-is_permitted.false);
      set = sym c.is_deletable.ensures ∙ c.if-not-is_deletable.false;
    }

pub own_transferred-requires : goal.own_transferred-requires
own_transferred-requires c = (entitled (goal.at.own_transferred-requires c).Else-not-is_deletable, c.in-Transfer.is ∙ ap (λ (y : Right). Transfer y) c.in-Own.is, c.requires.2)

pub control_granted-requires : goal.control_granted-requires
control_granted-requires c = (entitled (goal.at.control_granted-requires c).Else-not-is_deletable, c.in-Grant.is ∙ ap (λ (y : Right). Grant y) c.in-Control.is)

pub returns-in_default : goal.returns-in_default
returns-in_default c = other_judged (entitled (goal.at.returns-in_default c).Else-not-is_deletable) _ refl (c.in_default.not-Transfer _) (c.in_default.not-Grant _)

pub returns-in_default-y : goal.returns-in_default-y
returns-in_default-y c = other_judged (entitled (goal.at.returns-in_default-y c).Else-not-is_deletable) _ c.in-Transfer.is (λ e. c.in_default-y.not-Own (cc)) (λ e. cc)

pub returns-in_default-y-2 : goal.returns-in_default-y-2
returns-in_default-y-2 c = other_judged (entitled (goal.at.returns-in_default-y-2 c).Else-not-is_deletable) _ c.in-Grant.is (λ e. cc) (λ e. c.in_default-y-2.not-Control (cc))
