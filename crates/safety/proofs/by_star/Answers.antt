-- `safety::by_star` meets its contract.
use mathlib.Core.Path.{ap}
use mathlib.Core.Bool.{not}
use Rattle.matrix.specs.Reading.{state_of}
use Rattle.safety.specs.Tellings.{star_list, told_star}
use Rattle.safety.proofs.by_star.Goals as goal

pub returns : goal.returns
returns c =
    let t = c.args.t in
    told_star c.args.i (star_list (state_of c.args.r.now.b.now) t.s t.x t.y c.args.i (ap not c.subject_exists-absent.ensures)) c.put_star-k.ensures c.leaks.ensures
