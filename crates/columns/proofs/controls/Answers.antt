-- `columns::controls` meets its contract. Bit 1, shifted to the end.
use Rattle.columns.specs.Loops.{bit_one}
use Rattle.columns.proofs.controls.Goals as goal

pub returns : goal.returns
returns c = bit_one _
