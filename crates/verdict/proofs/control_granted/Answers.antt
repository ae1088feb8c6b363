-- `verdict::control_granted` meets its contract.
use mathlib.Core.Path.{refl}
use Rattle.states.specs.Reads.{named_subject}
use Rattle.verdict.specs.Late.{control_judged, not_plain}
use Rattle.verdict.proofs.control_granted.Goals as goal

pub controlled-requires : goal.controlled-requires
controlled-requires c =
    let q = c.requires.0.command in
    (q.station, named_subject (record { station = q.station; column = q.object }) c.in-Subject.is)

pub returns-then-controlled : goal.returns-then-controlled
returns-then-controlled c = rw c.into.ensures (control_judged c.requires.0 c.requires.1 c.in-Subject.is _ c.controlled.ensures c.if-controlled.true)

pub returns : goal.returns
returns c = control_judged c.requires.0 c.requires.1 c.in-Subject.is _ c.controlled.ensures c.if-controlled.false

pub returns-in_default : goal.returns-in_default
returns-in_default c = absurd (not_plain c.requires.0 c.requires.1 refl c.in_default.is)
