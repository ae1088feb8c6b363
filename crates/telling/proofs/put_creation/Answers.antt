-- `telling::put_creation` meets its contract: the name, and the end of a list where the right is not held then.
use Rattle.std.proofs.Common.{[], ◌∷◌, ap}
use Rattle.matrix.specs.declared.Fields.{Fields}
use Rattle.telling.specs.Tells.{tells_as, tells_only, tells_more}
use Rattle.telling.proofs.put_creation.Goals as goal

pub returns-then-held : goal.returns-then-held
returns-then-held c = tells_only _ c.if-held.true (tells_as (ap (λ (d : Fields). d ∷ []) c.creates_name.ensures) c.put-j.ensures)

pub returns : goal.returns
returns c = tells_more c.if-held.false (tells_as (ap (λ (d : Fields). d ∷ []) c.creates_name.ensures) c.put-j.ensures) c.put_finish.ensures
