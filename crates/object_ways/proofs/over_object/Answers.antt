-- `object_ways::over_object` meets its contract.
use Rattle.short_ways.specs.Allowed.{left_alone}
use mathlib.Core.Path.{sym, ◌∙◌}
use Rattle.cells.specs.Station.{right_shape}
use Rattle.short_ways.specs.WithoutBasic.{WithoutBasic}
use Rattle.object_ways.proofs.over_object.Goals as goal
use Rattle.object_ways.proofs.over_object.Goals.{Else-not-names_fit}

pub returns-then-c-ne0 : goal.returns-then-c-ne0
returns-then-c-ne0 c = left_alone

pub names_fit-requires : goal.names_fit-requires
names_fit-requires c = right_shape c.requires.0

pub returns-then-not-names_fit : goal.returns-then-not-names_fit
returns-then-not-names_fit c = left_alone

-- where the names fit and no basic right is named
without_basic : (c : Else-not-names_fit) → WithoutBasic c.args.b.now c.args.f c.args.c
without_basic c =
    let h = c.requires in
    record { station = h.0; valid = h.1; names = sym c.names_fit.ensures ∙ c.if-not-names_fit.false; none = c.if-c-ne0.false }

pub give_own-requires : goal.give_own-requires
give_own-requires c = (without_basic (goal.at.give_own-requires c).Else-not-names_fit, c.if-c-eq3.true)

pub returns-then-c-eq3 : goal.returns-then-c-eq3
returns-then-c-eq3 c = c.give_own.ensures

pub give_own-requires-then-c-eq7 : goal.give_own-requires-then-c-eq7
give_own-requires-then-c-eq7 c = (without_basic (goal.at.give_own-requires-then-c-eq7 c).Else-not-names_fit, c.if-c-eq7.true)

pub returns-then-c-eq7 : goal.returns-then-c-eq7
returns-then-c-eq7 c = c.give_own-then-c-eq7.ensures

pub create_object-requires : goal.create_object-requires
create_object-requires c = (without_basic (goal.at.create_object-requires c).Else-not-names_fit, c.if-c-eq10.true)

pub returns-then-c-eq10 : goal.returns-then-c-eq10
returns-then-c-eq10 c = c.create_object.ensures

pub destroy_object-requires : goal.destroy_object-requires
destroy_object-requires c = (without_basic (goal.at.destroy_object-requires c).Else-not-names_fit, c.if-c-eq11.true)

pub returns-then-c-eq11 : goal.returns-then-c-eq11
returns-then-c-eq11 c = c.destroy_object.ensures

pub returns : goal.returns
returns c = left_alone
