-- `columns::owners` meets its contract.
use Rattle.std.proofs.Common.{arith, ℕ, ap, get_or}
use Rattle.lanes.specs.Lists.{stored_none, stored_step, stored_done}
use Rattle.columns.specs.Cells.{last_counted}
use Rattle.columns.proofs.owners.Goals as goal

pub loop-s-init : goal.loop-s-init
loop-s-init g c = stored_none _ _

pub bounds-marks-last_lane : goal.bounds-marks-last_lane
bounds-marks-last_lane g c = last_counted g.W.Width.one_or_two c.loop-s.s _ (omega arith) c.last_lane.ensures

pub loop-s-preserved : goal.loop-s-preserved
loop-s-preserved g c =
    stored_step _ _ _ _ _ c.loop-s.invariant (omega arith) (ap (λ (j : ℕ). get_or c.args.marks.now j 0) c.last_lane.ensures)

pub returns : goal.returns
returns g c = stored_done _ _ _ _ _ (omega arith) (omega arith) c.loop-s.invariant
