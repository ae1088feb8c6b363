-- `states::name_exists` meets its contract: a plain object by a test of its column for an owner.
use Rattle.states.specs.Reads.{object_found}
use Rattle.states.proofs.name_exists.Goals as goal

pub returns-in-Plain : goal.returns-in-Plain
returns-in-Plain c = object_found c.requires c.in-Plain.is c.some_row.ensures
