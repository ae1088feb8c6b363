-- `commands::command_in_list` meets its contract: where no short way is taken, the bytes are still the same.
use native.Mathlib.Nat.{lt_of_lt_of_le}
use mathlib.Core.Path.{refl, sym, ◌∙◌, subst}
use mathlib.Core.List.{List}
use Prim.Native.Nat.{ℕ}
use Rattle.matrix.specs.Answers.{Accepted}
use Rattle.matrix.specs.declared.Fields.{Fields}
use Rattle.matrix.specs.Refusals.{answer_of}
use Rattle.matrix.specs.Reading.{state_of}
use Rattle.matrix.specs.Valid.{Valid}
use Rattle.cells.specs.Station.{Station, right_shape}
use Rattle.states.specs.Needs.{Guessed, guessed_at}
use Rattle.short_ways.specs.Answered.{Answered}
use Rattle.short_ways.specs.Ready.{row_i, row_s}
use Rattle.commands.proofs.command_in_list.Goals as goal

pub by_right-requires : goal.by_right-requires
by_right-requires c = let h = c.requires in (h.station, h.valid)

pub returns-then-by_right : goal.returns-then-by_right
returns-then-by_right c = record { answer = c.by_right.ensures.holds c.if-by_right.true; table = c.requires.size }

pub over_object-requires : goal.over_object-requires
over_object-requires c =
    subst (λ (b : List ℕ). Station b c.args.f × Valid (state_of b)) (sym (c.by_right.ensures.stays c.if-by_right.false)) (c.requires.station, c.requires.valid)

pub returns-then-over_object : goal.returns-then-over_object
returns-then-over_object c =
    let d = c.over_object in
    record {
      answer = subst (λ (b : List ℕ). Answered b d.new.b c.args.c (Accepted 0)) (c.by_right.ensures.stays c.if-by_right.false) (d.ensures.holds c.if-over_object.true);
      table = c.requires.size;
    }

pub over_subject-requires : goal.over_subject-requires
over_subject-requires c =
    let e = c.over_object.ensures.stays c.if-over_object.false ∙ c.by_right.ensures.stays c.if-by_right.false in
    subst (λ (b : List ℕ). Station b c.args.f × Valid (state_of b)) (sym e) (c.requires.station, c.requires.valid)

pub command_on-requires : goal.command_on-requires
command_on-requires c =
    let e = c.over_subject.ensures.stays c.if-not-over_subject.true ∙ c.over_object.ensures.stays c.if-over_object.false ∙ c.by_right.ensures.stays c.if-by_right.false in
    guessed_at (subst (λ (b : List ℕ). Guessed b c.args.f c.args.owners.now) (sym e) c.requires) refl

pub returns-then-not-over_subject : goal.returns-then-not-over_subject
returns-then-not-over_subject c =
    let d = c.command_on in
    let e = c.over_subject.ensures.stays c.if-not-over_subject.true ∙ c.over_object.ensures.stays c.if-over_object.false ∙ c.by_right.ensures.stays c.if-by_right.false in
    record {
      answer = subst (λ (b : List ℕ). Answered b d.new.b c.args.c (answer_of d.result)) e (subst (λ (x : Fields). Answered c.over_subject.new.b d.new.b x (answer_of d.result)) c.anew.ensures d.ensures.answer);
      table = d.ensures.table;
    }

pub follow_fields-requires : goal.follow_fields-requires
follow_fields-requires c =
    let few = (right_shape c.requires.station).high in
    let names = (c.over_subject.ensures.holds c.if-not-over_subject.false).1 in
    (lt_of_lt_of_le (row_s c.args.f c.args.c names) few, lt_of_lt_of_le (row_i c.args.f c.args.c names) few)

pub returns-clause-answer : goal.returns-clause-answer
returns-clause-answer c =
    let d = c.over_subject in
    let e = c.over_object.ensures.stays c.if-over_object.false ∙ c.by_right.ensures.stays c.if-by_right.false in
    subst (λ (b : List ℕ). Answered b d.new.b c.args.c (Accepted 0)) e (d.ensures.holds c.if-not-over_subject.false).0
