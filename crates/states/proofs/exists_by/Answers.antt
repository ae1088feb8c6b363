-- `states::exists_by` meets its contract: in a valid record an object over which somebody has a right exists.
use mathlib.Core.Path.{sym, ◌∙◌}
use Rattle.std.proofs.lemmas.Bool.{not-true, eqb-false}
use Rattle.states.specs.Reads.{object_touched}
use Rattle.states.proofs.exists_by.Goals as goal
use Rattle.states.proofs.exists_by.Goals.{then-cell-ne0, else-cell-ne0}

pub returns-then-cell-ne0-2 : goal.returns-then-cell-ne0-2
returns-then-cell-ne0-2 c =
    let q = c.requires in
    elim c.if-cell-ne0.branch [
      | then-cell-ne0 w ↦ c.if-cell-ne0-2.true ∙ object_touched q.0 q.1 q.2 c.in-Plain.is c.cell.ensures w.if-cell-ne0.true
      | else-cell-ne0 w ↦ c.if-cell-ne0-2.true ∙ object_touched q.0 q.1 q.3 c.in-Plain.is w.cell-else-cell-ne0.ensures
          (eqb-false _ 0 (not-true _ (sym w.value-is ∙ c.if-cell-ne0-2.true)))
    ]
