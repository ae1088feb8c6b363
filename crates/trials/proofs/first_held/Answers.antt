-- `trials::first_held` meets its contract.
use Rattle.std.proofs.Common.{ℕ, List, ◌≡◌, sym, ◌∙◌, ap, length}
use lib.Seq.{length-take-le}
use Rattle.std.proofs.lemmas.Result.{err_from_is_err_and}
use Rattle.laws.specs.Refusals.{some_number}
use Rattle.matrix.specs.declared.Shape.{Shape}
use Rattle.matrix.specs.Numbers.{numbers}
use Rattle.matrix.specs.Shape.{limits, shape_of}
use Rattle.matrix.specs.Record.{record_refusal}
use Rattle.matrix.specs.Calls.{question_fits}
use Rattle.matrix.specs.FirstHeld.{first_on}
use Rattle.owners.proofs.Read.{valid_record}
use Rattle.cells.specs.Station.{right_shape}
use Rattle.holding.specs.Asked.{cell_asked}
use Rattle.trials.specs.Answers.{turned_down, unfit, short, unformed, answered, lent_used}
use Rattle.trials.proofs.first_held.Goals as goal
use Rattle.trials.proofs.first_held.Goals.{In_ok-f, After-question_fits}

pub returns-in_err-f-clause-result : goal.returns-in_err-f-clause-result
returns-in_err-f-clause-result c =
    let a = c.args in
    let p = err_from_is_err_and c.from_residual.result c.from_residual.ensures.1 in
    rw (p.1, p.2) (turned_down a.b.now a.l.now a.s a.o a.right (length a.copy.now) c.in_err-f.ensures.opened.number (some_number _))

-- where the record is not turned down
right : (c : In_ok-f) → record_refusal limits c.args.b.now ≡ 0
right c = sym c.in_ok-f.ensures.opened.number

pub question_fits-requires : goal.question_fits-requires
question_fits-requires c = right_shape c.in_ok-f.ensures.opened.station

-- the test 7, as the definition has it
fits : (c : After-question_fits) → question_fits (shape_of c.args.b.now) c.args.s c.args.o c.args.right ≡ c.question_fits.result
fits c =
    let a = c.args in
    ap (λ (f : Shape). question_fits f a.s a.o a.right) (sym c.in_ok-f.ensures.opened.station.shape) ∙ sym c.question_fits.ensures

pub returns-then-not-question_fits-clause-result : goal.returns-then-not-question_fits-clause-result
returns-then-not-question_fits-clause-result c =
    let a = c.args in
    let g = goal.at.returns-then-not-question_fits-clause-result c in
    unfit a.b.now a.l.now a.s a.o a.right (length a.copy.now) (right g.In_ok-f) (fits g.After-question_fits ∙ c.if-not-question_fits.true)

pub returns-then-copy-b-clause-result : goal.returns-then-copy-b-clause-result
returns-then-copy-b-clause-result c =
    let a = c.args in
    let g = goal.at.returns-then-copy-b-clause-result c in
    short a.b.now a.l.now a.s a.o a.right (length a.copy.now) (right g.In_ok-f) (fits g.After-question_fits ∙ c.if-not-question_fits.false) c.if-copy-b.true

pub returns-in_default-clause-result : goal.returns-in_default-clause-result
returns-in_default-clause-result c =
    let a = c.args in
    let g = goal.at.returns-in_default-clause-result c in
    unformed a.b.now a.l.now a.s a.o a.right (length a.copy.now) (right g.In_ok-f) (fits g.After-question_fits ∙ c.if-not-question_fits.false) c.if-copy-b.false c.in_default.ensures

pub try_on-requires : goal.try_on-requires
try_on-requires c =
    let a = c.args in
    let g = goal.at.try_on-requires c in
    let station = c.in_ok-f.ensures.opened.station in
    let asked = cell_asked a.b.now c.in_ok-f.f a.s a.o a.right station c.question_fits.ensures c.if-not-question_fits.false in (
      record { station = station; valid = valid_record _ (right g.In_ok-f); size = c.open_with.ensures.table },
      asked.0,
      asked.1,
      length-take-le (length a.b.now) a.copy.now c.if-copy-b.false,
    )

pub returns : goal.returns
returns c =
    let a = c.args in
    let g = goal.at.returns c in
    record {
      few = c.try_on.ensures.few;
      result =
          ap (numbers 0) (c.try_on.ensures.first ∙ ap (λ (l : List ℕ). first_on a.b.now l a.s a.o a.right) c.in-Some.ensures.1)
          ∙ answered a.b.now a.l.now a.s a.o a.right (length a.copy.now) (right g.In_ok-f) (fits g.After-question_fits ∙ c.if-not-question_fits.false) c.if-copy-b.false c.in-Some.ensures.0;
      lent = lent_used (length a.b.now) c.try_on.new.copy a.copy.now (c.try_on.auto.copy ∙ length-take-le (length a.b.now) a.copy.now c.if-copy-b.false) c.if-copy-b.false;
    }
