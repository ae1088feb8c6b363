-- `short_ways::by_right` meets its contract.
use native.Mathlib.Omega.{arith}
use Prim.Native.Nat.{◌<◌}
use mathlib.Core.Path.{◌≡◌, sym, ◌∙◌}
use mathlib.Core.Bool.{true}
use Rattle.matrix.specs.Shape.{basics_of}
use Rattle.matrix.specs.Calls.{names_fit}
use Rattle.cells.specs.Station.{right_shape}
use Rattle.short_ways.specs.Allowed.{left_alone, where_then, answered_transfer, answered_grant, answered_delete}
use Rattle.short_ways.proofs.by_right.Goals as goal
use Rattle.short_ways.proofs.by_right.Goals.{Else-not-names_fit}

pub basics_of-requires : goal.basics_of-requires
basics_of-requires c = right_shape c.requires.0

pub returns-then-basics_of-c : goal.returns-then-basics_of-c
returns-then-basics_of-c c = left_alone

pub names_fit-requires : goal.names_fit-requires
names_fit-requires c = right_shape c.requires.0

pub returns-then-not-names_fit : goal.returns-then-not-names_fit
returns-then-not-names_fit c = left_alone

-- where names and right fit
names : (c : Else-not-names_fit) → names_fit c.args.f c.args.c ≡ true
names c = sym c.names_fit.ensures ∙ c.if-not-names_fit.false

right : (c : Else-not-names_fit) → c.args.c.k < basics_of c.args.f
right c = omega (arith, c.if-basics_of-c.false, c.basics_of.ensures)

pub put_allowed-requires : goal.put_allowed-requires
put_allowed-requires c = (c.requires.0, names (goal.at.put_allowed-requires c).Else-not-names_fit, right (goal.at.put_allowed-requires c).Else-not-names_fit, right (goal.at.put_allowed-requires c).Else-not-names_fit)

pub put_allowed-requires-in-4-to-5 : goal.put_allowed-requires-in-4-to-5
put_allowed-requires-in-4-to-5 c = (c.requires.0, names (goal.at.put_allowed-requires-in-4-to-5 c).Else-not-names_fit, right (goal.at.put_allowed-requires-in-4-to-5 c).Else-not-names_fit, tt)

pub put_allowed-requires-in-8-to-9 : goal.put_allowed-requires-in-8-to-9
put_allowed-requires-in-8-to-9 c = (c.requires.0, names (goal.at.put_allowed-requires-in-8-to-9 c).Else-not-names_fit, right (goal.at.put_allowed-requires-in-8-to-9 c).Else-not-names_fit, tt)

pub returns-in-1-to-2 : goal.returns-in-1-to-2
returns-in-1-to-2 c =
    where_then c.put_allowed.ensures (answered_transfer c.args.c c.requires.0 c.requires.1 (names (goal.at.returns-in-1-to-2 c).Else-not-names_fit) (right (goal.at.returns-in-1-to-2 c).Else-not-names_fit) c.in-1-to-2.if-c-lt1-own.false c.in-1-to-2.if-c-lt3-own.true)

pub returns-in-4-to-5 : goal.returns-in-4-to-5
returns-in-4-to-5 c =
    where_then c.put_allowed-in-4-to-5.ensures (answered_grant c.args.c c.requires.0 c.requires.1 (names (goal.at.returns-in-4-to-5 c).Else-not-names_fit) (right (goal.at.returns-in-4-to-5 c).Else-not-names_fit) c.in-4-to-5.if-c-lt4-own.false c.in-4-to-5.if-c-lt6-own.true)

pub returns-in-8-to-9 : goal.returns-in-8-to-9
returns-in-8-to-9 c =
    where_then c.put_allowed-in-8-to-9.ensures (answered_delete c.args.c c.requires.0 c.requires.1 (names (goal.at.returns-in-8-to-9 c).Else-not-names_fit) (right (goal.at.returns-in-8-to-9 c).Else-not-names_fit) c.in-8-to-9.if-c-lt8-own.false c.in-8-to-9.if-c-lt10-own.true)

pub returns-in_default : goal.returns-in_default
returns-in_default c = left_alone

pub returns-in_default-2 : goal.returns-in_default-2
returns-in_default-2 c = left_alone

pub returns-in_default-3 : goal.returns-in_default-3
returns-in_default-3 c = left_alone

pub returns-in_default-4 : goal.returns-in_default-4
returns-in_default-4 c = left_alone
