-- `lists::command_at` meets its contract: the list's length says how many commands it has.
use Rattle.std.proofs.Common.{arith}
use Rattle.lists.specs.Formed.{formed}
use Rattle.lists.proofs.Left.{read_command, read_end}
use Rattle.lists.proofs.command_at.Goals as goal

pub overflow_sub-l : goal.overflow_sub-l
overflow_sub-l c = (formed _ c.requires).long

pub returns-then-l-j : goal.returns-then-l-j
returns-then-l-j c = read_end _ _ (let h = formed _ c.requires in omega (arith, h.size, c.if-l-j.true))

pub returns : goal.returns
returns c = read_command _ _ (let h = formed _ c.requires in omega (arith, h.size, c.if-l-j.false)) cc
