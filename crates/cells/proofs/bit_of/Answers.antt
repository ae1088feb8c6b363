-- `cells::bit_of` meets its contract: the test is the definition's.
use mathlib.Core.Path.{refl}
use Rattle.matrix.specs.Bytes.{bit}
use Rattle.cells.proofs.bit_of.Goals as goal

pub returns : goal.returns
unfolding bit
returns c = refl
