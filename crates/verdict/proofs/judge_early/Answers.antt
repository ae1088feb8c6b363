-- `verdict::judge_early` meets its contract: each return rewrites with the tests that led there.
use mathlib.Core.Path.{◌≡◌, sym, ◌∙◌, ap}
use mathlib.Core.Bool.{true}
use Rattle.verdict.specs.Stages.{early_8, early_9, early_10, early_11}
use Rattle.matrix.specs.declared.Kind.{Kind}
use Rattle.matrix.specs.State.{exists}
use Rattle.matrix.specs.Commands.{kind_of}
use Rattle.matrix.specs.Tests.{kind_fits, present}
use Rattle.matrix.specs.Reading.{state_of}
use Rattle.verdict.proofs.judge_early.Goals as goal
use Rattle.verdict.proofs.judge_early.Goals.{After-kind_fits, Else-not-kind_fits, Else-not-names_present, Else-not-subject_exists}

initiator : (c : Else-not-subject_exists) → exists (state_of c.args.b.now) c.args.c.i ≡ true
initiator c = sym c.subject_exists.ensures ∙ c.if-not-subject_exists.false

kind_told : (c : After-kind_fits) → kind_fits (kind_of c.args.c.act) c.args.c.o ≡ c.kind_fits.result
kind_told c = ap (λ (k : Kind). kind_fits k c.args.c.o) (sym c.requires.1) ∙ sym c.kind_fits.ensures

kind : (c : Else-not-kind_fits) → kind_fits (kind_of c.args.c.act) c.args.c.o ≡ true
kind c = (ap (λ (k : Kind). kind_fits k c.args.c.o) (sym c.requires.1) ∙ sym c.kind_fits.ensures) ∙ c.if-not-kind_fits.false

there : (c : Else-not-names_present) → present (state_of c.args.b.now) c.args.c c.args.c.act ≡ true
there c = sym c.names_present.ensures ∙ c.if-not-names_present.false

pub returns-then-not-subject_exists : goal.returns-then-not-subject_exists
returns-then-not-subject_exists c = early_8 _ _ (sym c.subject_exists.ensures ∙ c.if-not-subject_exists.true)

pub returns-then-not-kind_fits : goal.returns-then-not-kind_fits
returns-then-not-kind_fits c = early_9 _ _ (initiator (goal.at.returns-then-not-kind_fits c).Else-not-subject_exists) (kind_told (goal.at.returns-then-not-kind_fits c).After-kind_fits ∙ c.if-not-kind_fits.true)

pub returns-then-not-names_present : goal.returns-then-not-names_present
returns-then-not-names_present c = early_10 _ _ (initiator (goal.at.returns-then-not-names_present c).Else-not-subject_exists) (kind (goal.at.returns-then-not-names_present c).Else-not-kind_fits) (sym c.names_present.ensures ∙ c.if-not-names_present.true)

pub returns-then-not-name_free : goal.returns-then-not-name_free
returns-then-not-name_free c = early_11 _ _ (initiator (goal.at.returns-then-not-name_free c).Else-not-subject_exists) (kind (goal.at.returns-then-not-name_free c).Else-not-kind_fits) (there (goal.at.returns-then-not-name_free c).Else-not-names_present) (sym c.name_free.ensures ∙ c.if-not-name_free.true)

pub returns : goal.returns
returns c = early_11 _ _ (initiator (goal.at.returns c).Else-not-subject_exists) (kind (goal.at.returns c).Else-not-kind_fits) (there (goal.at.returns c).Else-not-names_present) (sym c.name_free.ensures ∙ c.if-not-name_free.false)
