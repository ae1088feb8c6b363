-- `lists::List::commands` meets its contract.
use Rattle.lists.proofs.Left.{left_all}
use Rattle.lists.proofs.List.commands.Goals as goal

pub returns : goal.returns
returns c = left_all _
