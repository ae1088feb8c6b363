-- `trials::first_on` meets its contract.
use Rattle.std.proofs.Common.{arith, ap, ◌∙◌, refl}
use Rattle.lists.specs.declared.Commands.{Commands}
use Rattle.lists.specs.Left.{commands_left}
use Rattle.lists.proofs.Left.{few_commands}
use Rattle.runs.specs.Steps.{reached_none}
use Rattle.trials.specs.Steps.{found, found_never, found_refused, found_later}
use Rattle.trials.proofs.first_on.Goals as goal

pub loop-c-init : goal.loop-c-init
loop-c-init c = record {
  reached = reached_none c.requires.0 (ap (λ (s : Commands). commands_left s.list.bytes.now s.at) c.into_iter-c-iterator.ensures.into_iter_gives ∙ c.commands-c-items.ensures);
  table = c.requires.0.size;
}

pub returns-then-is_held : goal.returns-then-is_held
returns-then-is_held c = let a = c.args in record { few = omega (arith, c.loop-c.invariant.reached.counted, few_commands _ c.args.list.formed); first = found a.s a.o a.right c.loop-c.invariant.reached c.is_held.ensures c.if-is_held.true }

pub returns-in_default-clause-first : goal.returns-in_default-clause-first
returns-in_default-clause-first c =
    let a = c.args in
    found_refused a.s a.o a.right c.loop-c.invariant.reached c.is_held.ensures c.if-is_held.false c.in-Some.ensures.steps c.in_default.ensures.answer refl

pub overflow_add-before : goal.overflow_add-before
overflow_add-before c = omega (arith, c.loop-c.invariant.reached.counted, few_commands _ c.args.list.formed)

pub loop-c-preserved : goal.loop-c-preserved
loop-c-preserved c =
    let a = c.args in
    record {
      reached = found_later a.s a.o a.right c.loop-c.invariant.reached c.is_held.ensures c.if-is_held.false c.in-Some.ensures.steps c.in-Ok.ensures.answer refl;
      table = c.command_on.ensures.table;
    }

pub returns-then-is_held-2 : goal.returns-then-is_held-2
returns-then-is_held-2 c = let a = c.args in record { few = omega (arith, c.loop-c.invariant.reached.counted, few_commands _ c.args.list.formed); first = found a.s a.o a.right c.loop-c.invariant.reached c.is_held-2.ensures c.if-is_held-2.true }

pub returns-else-is_held-2-clause-first : goal.returns-else-is_held-2-clause-first
returns-else-is_held-2-clause-first c = let a = c.args in found_never a.s a.o a.right c.loop-c.invariant.reached c.is_held-2.ensures c.if-is_held-2.false c.in-None.ensures.steps.0
