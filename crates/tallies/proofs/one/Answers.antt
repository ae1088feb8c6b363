-- `tallies::one` meets its contract.
use borrow.Author.Rules.{rules}
use native.Mathlib.Omega.{arith}
use Rattle.tallies.specs.Blocks.{column_none, column_next, column_low, column_count}
use Rattle.tallies.proofs.one.Goals as goal

pub loop-r-init : goal.loop-r-init
loop-r-init c = column_none _

pub overflow_add-low : goal.overflow_add-low
overflow_add-low c = record { fits = omega (arith, column_low _ _ _ _ _ c.loop-r.invariant) }

pub overflow_add-since : goal.overflow_add-since
overflow_add-since c = record { fits = omega (arith, column_count _ _ _ _ _ c.loop-r.invariant) }

pub loop-r-preserved : goal.loop-r-preserved
loop-r-preserved c = column_next _ _ _ _ _ _ c.loop-r.invariant c.upper-v.ensures

pub place-requires : goal.place-requires
place-requires c = (search rules, omega (arith, c.loop-r.auto.r-end, c.loop-r-test.false, column_count _ _ _ _ _ c.loop-r.invariant))
