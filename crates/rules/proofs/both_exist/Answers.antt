-- `rules::both_exist` meets its contract.
use Rattle.laws.specs.Tests.{and_then, and_stop}
use Rattle.rules.proofs.both_exist.Goals as goal

pub returns-then-subject_exists : goal.returns-then-subject_exists
returns-then-subject_exists c = and_then c.if-subject_exists.true c.subject_exists.ensures c.exists_by.ensures

pub returns : goal.returns
returns c = and_stop _ c.if-subject_exists.false c.subject_exists.ensures
