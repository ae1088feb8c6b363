-- `columns::Cells::subjects` meets its contract. Where all exist, a subject's test is that of its counts.
use Rattle.std.proofs.Common.{◌∙◌, sym}
use Rattle.columns.specs.Loops.{counts_test}
use Rattle.columns.proofs.Cells.subjects.Goals as goal

pub returns-then-all_present : goal.returns-then-all_present
returns-then-all_present g c =
    let m = c.args.self.now.lanes in
    c.counts_fit.ensures
    ∙ counts_test g.W.Width.LANES m.bytes.now m.matrix _ c.args.tally.now c.args.odd.now (sym c.all_present.ensures ∙ c.if-all_present.true)
