-- `subject_ways::over_subject` meets its contract.
use mathlib.Core.Path.{sym, ◌∙◌}
use Rattle.cells.specs.Station.{right_shape}
use Rattle.short_ways.specs.Allowed.{left_alone, where_then}
use Rattle.short_ways.specs.WithoutBasic.{WithoutBasic}
use Rattle.subject_ways.proofs.over_subject.Goals as goal
use Rattle.subject_ways.proofs.over_subject.Goals.{Else-not-names_fit}

pub returns-then-c-ne0 : goal.returns-then-c-ne0
returns-then-c-ne0 c = left_alone

pub names_fit-requires : goal.names_fit-requires
names_fit-requires c = right_shape c.requires.0

pub returns-then-not-names_fit : goal.returns-then-not-names_fit
returns-then-not-names_fit c = left_alone

-- where the names fit and no basic right is named
without_basic : (c : Else-not-names_fit) → WithoutBasic c.args.b.now c.args.f c.args.c
without_basic c =
    let h = c.requires in
    record { station = h.0; valid = h.1; names = sym c.names_fit.ensures ∙ c.if-not-names_fit.false; none = c.if-c-ne0.false }

pub grant_control-requires : goal.grant_control-requires
grant_control-requires c = (without_basic (goal.at.grant_control-requires c).Else-not-names_fit, c.if-c-eq6.true)

pub returns-then-c-eq6 : goal.returns-then-c-eq6
returns-then-c-eq6 c = where_then c.grant_control.ensures (λ a. (a, (without_basic (goal.at.returns-then-c-eq6 c).Else-not-names_fit).names))

pub create_subject-requires : goal.create_subject-requires
create_subject-requires c = (without_basic (goal.at.create_subject-requires c).Else-not-names_fit, c.if-c-eq12.true)

pub returns-then-c-eq12 : goal.returns-then-c-eq12
returns-then-c-eq12 c = where_then c.create_subject.ensures (λ a. (a, (without_basic (goal.at.returns-then-c-eq12 c).Else-not-names_fit).names))

pub destroy_subject-requires : goal.destroy_subject-requires
destroy_subject-requires c = (without_basic (goal.at.destroy_subject-requires c).Else-not-names_fit, c.if-c-eq13.true)

pub returns-then-c-eq13 : goal.returns-then-c-eq13
returns-then-c-eq13 c = where_then c.destroy_subject.ensures (λ a. (a, (without_basic (goal.at.returns-then-c-eq13 c).Else-not-names_fit).names))

pub returns : goal.returns
returns c = left_alone
