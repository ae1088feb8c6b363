-- `station::valid` meets its contract.
use mathlib.Core.Path.{◌∙◌}
use Rattle.station.specs.Done.{valid_opens}
use Rattle.station.proofs.valid.Goals as goal

pub returns : goal.returns
returns c = c.is_ok.ensures.value ∙ valid_opens c.open.result c.open.ensures
