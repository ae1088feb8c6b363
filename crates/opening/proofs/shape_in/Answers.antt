-- `opening::shape_in` meets its contract, field by field.
use Rattle.opening.proofs.shape_in.Goals as goal

pub returns : goal.returns
returns c = let a = c.args in λ i. record { version = a.version; n = a.n; p = a.p; width = c.width_of.ensures i; first = c.first_of.ensures i }
