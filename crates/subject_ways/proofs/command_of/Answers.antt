-- `subject_ways::command_of` meets its contract.
use mathlib.Core.Path.{ap}
use Rattle.matrix.specs.declared.Name.{Name}
use Rattle.matrix.specs.declared.Command.{Command}
use Rattle.subject_ways.proofs.command_of.Goals as goal

pub returns : goal.returns
returns c =
    let a = c.args in
    ap (λ (x : Name). let d : Command = record { i = a.c.i; s = a.c.s; o = x; act = a.act } in d) c.name_of-o.ensures
