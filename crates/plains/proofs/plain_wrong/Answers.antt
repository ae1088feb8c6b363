-- `plains::plain_wrong` meets its contract, by whether it is owned and not controlled.
use Rattle.plains.specs.Checks.{plain_owned, plain_other}
use Rattle.plains.proofs.plain_wrong.Goals as goal

pub returns-then-seen-last_lane-eq1 : goal.returns-then-seen-last_lane-eq1
returns-then-seen-last_lane-eq1 g c = plain_owned _ _ _ _ c.last_lane.ensures c.if-seen-last_lane-eq1.true

pub returns-else-seen-last_lane-eq1 : goal.returns-else-seen-last_lane-eq1
returns-else-seen-last_lane-eq1 g c = plain_other _ _ _ _ c.last_lane.ensures _ c.if-seen-last_lane-eq1.false c.bits_of.ensures
