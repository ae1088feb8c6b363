-- `targets::star_holder` meets its contract: own and control have no star.
use Rattle.matrix.specs.Reading.{state_of}
use Rattle.question.specs.Trust.{trusted_by}
use Rattle.targets.specs.Targets.{no_star}
use Rattle.targets.proofs.star_holder.Goals as goal

pub returns-in-Own : goal.returns-in-Own
returns-in-Own c = no_star (state_of c.args.b.now) (trusted_by c.args.trust) c.args.x _ c.in-Own.is
