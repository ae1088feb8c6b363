-- `safety::by_creation` meets its contract.
use Rattle.matrix.specs.Reading.{state_of}
use Rattle.safety.specs.Tellings.{creation_list, told_creation}
use Rattle.safety.proofs.by_creation.Goals as goal

pub returns : goal.returns
returns c =
    let t = c.args.t in
    told_creation c.args.v (creation_list (state_of c.args.r.now.b.now) t.s t.x t.y c.args.v c.held_when_made-held.ensures c.still_absent-absent.ensures) c.put_creation-k.ensures c.leaks.ensures
