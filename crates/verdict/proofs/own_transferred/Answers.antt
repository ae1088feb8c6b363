-- `verdict::own_transferred` meets its contract.
use Rattle.verdict.specs.Late.{own_judged, object_judged}
use Rattle.verdict.proofs.own_transferred.Goals as goal

pub returns-in_default : goal.returns-in_default
returns-in_default c = object_judged c.requires.0 c.requires.1 c.in_default.is

pub returns-in-Meets : goal.returns-in-Meets
returns-in-Meets c =
    own_judged c.requires.0 c.requires.1 c.in-Subject.is _ c.owner_walk.ensures c.in-Meets.is

pub returns-in-Root : goal.returns-in-Root
returns-in-Root c =
    own_judged c.requires.0 c.requires.1 c.in-Subject.is _ c.owner_walk.ensures c.in-Root.is

pub returns-in-Lost : goal.returns-in-Lost
returns-in-Lost c =
    own_judged c.requires.0 c.requires.1 c.in-Subject.is _ c.owner_walk.ensures c.in-Lost.is
