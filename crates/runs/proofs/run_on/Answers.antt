-- `runs::run_on` meets its contract.
use Rattle.std.specs.Prelude.{ℕ, Result}
use Rattle.std.proofs.Common.{arith, length, ap, sym, ◌∙◌, refl, subst}
use Rattle.matrix.specs.declared.Refused.{Refused}
use Rattle.matrix.specs.Numbers.{command_numbers}
use Rattle.matrix.specs.Refusals.{answer_of}
use Rattle.lists.specs.declared.Commands.{Commands}
use Rattle.runs.specs.Reached.{RunOn}
use Rattle.runs.specs.Steps.{reached_none, ran_accepted, ran_refused, ran_all}
use Rattle.lists.specs.Left.{commands_left}
use Rattle.lists.proofs.Left.{few_commands}
use Rattle.runs.proofs.run_on.Goals as goal

pub loop-c-init : goal.loop-c-init
loop-c-init c = record { reached = reached_none c.requires (ap (λ (s : Commands). commands_left s.list.bytes.now s.at) c.into_iter-c-iterator.ensures.into_iter_gives ∙ c.commands-reader.ensures); table = c.requires.size }

pub command_in_list-answer-requires : goal.command_in_list-answer-requires
command_in_list-answer-requires c =
    let r = c.loop-c.invariant.reached in
    record { station = r.station; valid = r.valid; size = c.loop-c.invariant.table }

pub returns-in_default : goal.returns-in_default
returns-in_default c =
    subst (RunOn _ _ _) (sym c.counted.ensures) (ran_refused c.loop-c.invariant.reached c.in-Some.ensures.steps c.in_default.ensures.answer refl (ap (λ (r : Result ℕ Refused). (command_numbers (answer_of r)).refusal) c.in_default.is))

pub overflow_add-accepted : goal.overflow_add-accepted
overflow_add-accepted c =
    let e = c.loop-c.invariant.reached.counted in
    omega (arith, few_commands _ c.args.list.formed, ap length c.in-Some.ensures.steps)

pub loop-c-preserved : goal.loop-c-preserved
loop-c-preserved c = record {
  reached = ran_accepted c.loop-c.invariant.reached c.in-Some.ensures.steps c.in-Ok.ensures.answer refl;
  table = c.command_in_list-answer.ensures.table;
}

pub returns : goal.returns
returns c = ran_all c.loop-c.invariant.reached c.in-None.ensures.steps.0
