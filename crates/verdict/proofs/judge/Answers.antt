-- `verdict::judge` meets its contract.
use mathlib.Core.Path.{sym, ◌∙◌}
use Rattle.std.proofs.lemmas.Result.{err_from_is_err_and}
use Rattle.laws.specs.Refusals.{some_number}
use Rattle.verdict.specs.Stages.{early_kind}
use Rattle.verdict.specs.Late.{judged_early, judged_late}
use Rattle.verdict.proofs.judge.Goals as goal

pub returns-in_err-judge_early : goal.returns-in_err-judge_early
returns-in_err-judge_early c =
    let p = err_from_is_err_and c.from_residual.result c.from_residual.ensures.1 in
    rw (p.1, p.2) (judged_early _ _ (c.in_err-judge_early.ensures) (some_number _))

pub judge_late-requires : goal.judge_late-requires
judge_late-requires c = (c.requires.0, early_kind _ _ (sym (c.in_ok-judge_early.ensures)), c.requires.2)

pub returns : goal.returns
returns c = judged_late _ _ (sym (c.in_ok-judge_early.ensures)) c.judge_late.ensures
