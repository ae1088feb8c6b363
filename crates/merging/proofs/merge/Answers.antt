-- `merging::merge` meets its contract.
use native.Mathlib.Omega.{arith}
use mathlib.Core.Path.{refl}
use Rattle.merging.specs.Rows.{joined_first, joined_step}
use Rattle.merging.proofs.merge.Goals as goal

pub loop-r-init : goal.loop-r-init
loop-r-init c = joined_first _ _ _ _ refl c.requires.1 c.requires.2

pub loop-j-preserved : goal.loop-j-preserved
loop-j-preserved c =
    let l = c.loop-j in
    joined_step _ _ _ _ _ _ _ l.invariant c.loop-j-test.true (omega (arith, c.loop-r.invariant.size, c.requires.1)) c.lane.ensures
