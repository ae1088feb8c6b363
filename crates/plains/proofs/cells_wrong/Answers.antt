-- `plains::cells_wrong` meets its contract.
use Rattle.std.proofs.Common.{arith, ℕ, ◌∙◌, ap, bit_or, get_or}
use Rattle.columns.specs.Cells.{last_inside}
use Rattle.plains.specs.Checks.{plain_wrong}
use Rattle.plains.specs.Parts.{wrong_none, wrong_more}
use Rattle.plains.proofs.cells_wrong.Goals as goal

pub loop-c-init : goal.loop-c-init
loop-c-init g c = (omega arith, wrong_none (plain_wrong g.W.Width.LANES (λ j. get_or c.args.seen.now j 0)) c.args.from)

pub plain_wrong-wrong-requires : goal.plain_wrong-wrong-requires
plain_wrong-wrong-requires g c =
    let t = c.loop-c-test.true in
    (omega (arith, c.requires.0, t), omega (arith, last_inside g.W.Width.one_or_two _ _ t, c.requires.1))

pub loop-c-preserved : goal.loop-c-preserved
loop-c-preserved g c =
    let l = c.loop-c in
    (omega arith, ap (λ (x : ℕ). bit_or l.wrong x) c.plain_wrong-wrong.ensures ∙ wrong_more (plain_wrong g.W.Width.LANES (λ j. get_or c.args.seen.now j 0)) c.args.from l.c l.wrong l.invariant.0 l.invariant.1)
