-- `opening::shape` meets its contract.
use mathlib.Core.Path.{◌∙◌}
use Rattle.matrix.specs.Shape.{shape_of, shape_in}
use Rattle.opening.proofs.shape.Goals as goal

pub returns : goal.returns
unfolding shape_of
returns c = c.shape_in.ensures ∙ (λ i. shape_in (c.byte.ensures i) (c.byte-2.ensures i) (c.byte-3.ensures i))
