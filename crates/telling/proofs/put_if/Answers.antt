-- `telling::put_if` meets its contract.
use Rattle.telling.specs.Tells.{tells_skipped}
use Rattle.telling.proofs.put_if.Goals as goal

pub returns-then-not-wanted : goal.returns-then-not-wanted
returns-then-not-wanted c = tells_skipped _ _ _ c.if-not-wanted.true
