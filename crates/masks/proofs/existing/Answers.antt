-- `masks::existing` meets its contract.
use Rattle.masks.specs.Existing.{marks_none}
use Rattle.masks.proofs.existing.Goals as goal

pub loop-s-init : goal.loop-s-init
loop-s-init c = marks_none c.args.b.now
