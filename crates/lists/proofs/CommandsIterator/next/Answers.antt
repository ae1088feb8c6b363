-- What `lists::Commands` yields: the commands that are left, the first of them first.
use Rattle.std.proofs.Common.{ap, sym, ◌∙◌, length, rules}
use Rattle.lists.specs.Formed.{formed}
use Rattle.lists.proofs.Left.{yields_command, yields_end}
use Rattle.lists.proofs.CommandsIterator.next.Goals as goal

pub returns-in_err-c-clause-steps : goal.returns-in_err-c-clause-steps
returns-in_err-c-clause-steps c =
    let e = yields_end _ _ (sym c.in_err-c.was ∙ c.command_at.ensures) in
    rw c.from_residual.ensures (e, e)

pub overflow_add-self : goal.overflow_add-self
overflow_add-self c =
    let n = yields_command _ _ (sym c.in_ok-c.was ∙ c.command_at.ensures) in
    let f = formed _ c.args.self.now.list.formed in
    search (rules, n.0, f.bounded)

pub returns-clause-steps : goal.returns-clause-steps
returns-clause-steps c = (yields_command _ _ (sym c.in_ok-c.was ∙ c.command_at.ensures)).1

pub returns-clause-goes : goal.returns-clause-goes
returns-clause-goes c =
    let shorter = ap length (yields_command _ _ (sym c.in_ok-c.was ∙ c.command_at.ensures)).1 in
    search rules
