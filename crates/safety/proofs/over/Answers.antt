-- `safety::over` meets its contract.
use Rattle.std.proofs.Common.{sym, ◌∙◌, ap}
use Rattle.states.specs.Reads.{top_is}
use Rattle.ways.specs.Ways.{from_above}
use Rattle.safety.specs.Steps.{asks_at, above_below}
use Rattle.safety.proofs.over.Goals as goal

pub from_above-requires : goal.from_above-requires
from_above-requires c =
    let e = c.in_ok-met.ensures.way in (
      asks_at (e ∙ ap (from_above c.in_ok-met.met.subject) (sym c.subjects.ensures)) c.requires,
      above_below _ _ _ (top_is _ _ c.args.r.now.station) e,
    )
