-- `climbing::way_up` meets its contract: each arm is the way over a name of that kind.
use Rattle.std.proofs.Common.{subst}
use Rattle.matrix.specs.Reading.{state_of}
use Rattle.states.specs.Needs.{NameIn}
use Rattle.states.specs.Reads.{top_is}
use Rattle.climbing.specs.Over.{met_within}
use Rattle.climbing.specs.Needed.{until_found}
use Rattle.climbing.proofs.way_up.Goals as goal

pub shorten-requires : goal.shorten-requires
shorten-requires c =
    let z = c.args.r.now in
    (subst (NameIn z.b.now z.f) c.in-Plain.is c.requires, (met_within _ _ _ (top_is _ _ z.station) c.in_ok-met-in-Plain.ensures.risen).1)

pub returns-in_ok-met-in-Plain-clause-found : goal.returns-in_ok-met-in-Plain-clause-found
returns-in_ok-met-in-Plain-clause-found c =
    let g = c.in_ok-met-in-Plain.ensures.found in
    let h = until_found (state_of c.args.r.now.b.now).owns _ _ g.1 g.2 c.shorten.ensures in
    (g.0, h.0, h.1)
