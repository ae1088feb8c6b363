-- `masks::has` meets its contract: the test is the definition's.
use mathlib.Core.Path.{refl}
use Rattle.matrix.specs.Bytes.{bit}
use Rattle.masks.proofs.has.Goals as goal

pub returns : goal.returns
unfolding bit
returns c = refl
