-- `lists::lengths_right` meets its contract: a turn of its loop drops a command.
use Rattle.std.proofs.Common.{sym, ◌∙◌, ap, arith}
use Rattle.lists.specs.Forms.{lengths_right, lengths_none, lengths_more, lengths_wrong}
use Rattle.lists.proofs.lengths_right.Goals as goal

pub returns-then-command-ne-LENGTH_BYTE : goal.returns-then-command-ne-LENGTH_BYTE
returns-then-command-ne-LENGTH_BYTE c =
    let s = c.in-Some.ensures.steps.1 in
    let i = c.loop-command.invariant in
    lengths_wrong _ _ (s.1 ∙ i.0) c.if-command-ne-LENGTH_BYTE.true ∙ sym (i.1 ∙ ap lengths_right s.0)

pub loop-command-preserved : goal.loop-command-preserved
loop-command-preserved c =
    let s = c.in-Some.ensures.steps in
    let i = c.loop-command.invariant in
    (s.0 ∙ i.0, i.1 ∙ ap lengths_right s.1.0 ∙ lengths_more _ _ (s.1.1 ∙ i.0) c.if-command-ne-LENGTH_BYTE.false)

pub returns : goal.returns
returns c =
    let s = c.in-None.ensures.steps.1 in
    let i = c.loop-command.invariant in
    sym (i.1 ∙ lengths_none _ (let h = s.0 in omega (arith, i.0)))
