-- `masks::size` meets its contract: ones are the bits that are set.
use native.Mathlib.Omega.{arith}
use lib.Count.{ones-le}
use Rattle.masks.specs.Marks.{mask_bits}
use Rattle.masks.specs.Counts.{ones_count}
use Rattle.masks.proofs.size.Goals as goal

pub overflow_cast-result : goal.overflow_cast-result
overflow_cast-result c = omega (arith, ones-le mask_bits c.args.set (omega arith))

pub returns : goal.returns
returns c = ones_count mask_bits c.args.set (omega arith)
