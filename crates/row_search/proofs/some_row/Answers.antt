-- `row_search::some_row` meets its contract.
use Rattle.matrix.specs.Bounded.{any}
use Rattle.codec.specs.Bits.{bit_zero}
use Rattle.row_search.specs.Rows.{row_joined}
use Rattle.row_search.proofs.some_row.Goals as goal

pub loop-r-init : goal.loop-r-init
unfolding any
loop-r-init c = bit_zero c.args.j

pub loop-r-preserved : goal.loop-r-preserved
loop-r-preserved c =
    row_joined c.args.c c.args.skip c.loop-r.r c.loop-r.seen c.requires.0 c.requires.2 c.low_byte.ensures c.unless_skipped-seen.ensures c.loop-r.invariant
