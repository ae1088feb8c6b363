-- `plains::plains` meets its contract. A row of few lanes is one list, of which the subjects' columns are left out.
use Rattle.std.proofs.Common.{arith, ℕ, ◌+◌, ◌∙◌, sym, ap, subst, eqb}
use Rattle.lanes.specs.Lanes.{Seen, seen_at}
use Rattle.plains.specs.Parts.{at_once, lanes_none, part_wrong, tested_once}
use Rattle.plains.proofs.plains.Goals as goal

pub returns-then-lanes-lt-AT_ONCE : goal.returns-then-lanes-lt-AT_ONCE
returns-then-lanes-lt-AT_ONCE g c =
    let w = g.W.Width.one_or_two in
    let a = c.args.cells.now in
    let m = a.lanes in
    let n = a.subjects in
    ap (λ (v : ℕ). eqb v 0)
    (c.cells_wrong.ensures
    ∙ part_wrong w m.bytes.now m.matrix c.merge.new.seen 0 n (n + a.plain) m.matrix.lanes at_once
    (subst (λ (i : ℕ). Seen m.bytes.now m.matrix i m.matrix.lanes at_once c.merge.new.seen) (sym (lanes_none w)) c.merge.ensures)
    (omega (arith, a.columned.width)))
    ∙ tested_once g.W.Width.LANES (seen_at m.bytes.now m.matrix) n a.plain 0 (n + a.plain) n (omega arith) (omega arith)
