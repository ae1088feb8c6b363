-- `bits::clear_column` meets its contract.
use Rattle.std.proofs.Common.{arith}
use Rattle.bits.specs.Steps.{cell_after}
use Rattle.bits.specs.Loops.{column_none, column_next, column_all}
use Rattle.bits.proofs.clear_column.Goals as goal

pub loop-w-init : goal.loop-w-init
loop-w-init c = column_none c.args.c c.requires.0

pub store-requires : goal.store-requires
store-requires c = cell_after c.requires.0 c.loop-w.invariant c.loop-w-test.true c.requires.1

pub loop-w-preserved : goal.loop-w-preserved
loop-w-preserved c =
    let l = c.loop-w in
    let h = cell_after c.requires.0 l.invariant c.loop-w-test.true c.requires.1 in
    column_next c.args.c l.invariant h c.store.ensures

pub returns : goal.returns
returns c = column_all c.args.c c.requires.0 (omega arith) c.loop-w.invariant
