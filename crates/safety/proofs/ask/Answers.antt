-- `safety::ask` meets its contract.
use native.Mathlib.Omega.{arith}
use mathlib.Core.Path.{◌≡◌, refl, sym, ◌∙◌}
use Rattle.std.proofs.lemmas.Result.{err_from_is_err_and}
use Rattle.laws.specs.Refusals.{some_number}
use Rattle.matrix.specs.Shape.{limits}
use Rattle.matrix.specs.Record.{record_refusal}
use Rattle.cells.specs.Station.{right_shape}
use Rattle.question.specs.Trust.{trusted_by}
use Rattle.safety.specs.Turned.{turned_record}
use Rattle.safety.specs.Whole.{unfit, no_room, Fitting, asked, bit_asked, subject_byte, column_byte, number_byte, asks_of, unheld, answered, answered_held}
use Rattle.safety.proofs.ask.Goals as goal
use Rattle.safety.proofs.ask.Goals.{In_ok-f, Else-out-f}

pub returns-in_err-f : goal.returns-in_err-f
returns-in_err-f c =
    let p = err_from_is_err_and c.from_residual.result c.from_residual.ensures.1 in
    rw (p.1, p.2) (turned_record _ _ _ _ _ _ c.in_err-f.ensures.opened.number (some_number _))

-- where the record is not turned down
right : (c : In_ok-f) → record_refusal limits c.args.b.now ≡ 0
right c = sym c.in_ok-f.ensures.opened.number

pub within_bounds-requires : goal.within_bounds-requires
within_bounds-requires c = right_shape c.in_ok-f.ensures.opened.station

pub returns-then-not-within_bounds : goal.returns-then-not-within_bounds
returns-then-not-within_bounds c =
    let a = c.args in
    unfit (right (goal.at.returns-then-not-within_bounds c).In_ok-f) c.in_ok-f.ensures.opened.station a.trust a.s a.o a.right a.out.now c.within_bounds.ensures c.if-not-within_bounds.true

pub overflow_add-f : goal.overflow_add-f
overflow_add-f c = omega (arith, (right_shape c.in_ok-f.ensures.opened.station).high)

pub overflow_mul-f : goal.overflow_mul-f
overflow_mul-f c = omega (arith, (right_shape c.in_ok-f.ensures.opened.station).high)

pub overflow_add-f-2 : goal.overflow_add-f-2
overflow_add-f-2 c = omega (arith, (right_shape c.in_ok-f.ensures.opened.station).high)

pub returns-then-out-f : goal.returns-then-out-f
returns-then-out-f c =
    let a = c.args in
    no_room (right (goal.at.returns-then-out-f c).In_ok-f) c.in_ok-f.ensures.opened.station a.trust a.s a.o a.right a.out.now c.within_bounds.ensures c.if-not-within_bounds.false c.if-out-f.true

fitting : (c : Else-out-f)
    → Fitting c.args.b.now c.in_ok-f.f c.args.trust c.args.s c.args.o c.args.right c.args.out.now
fitting c =
    record { valid = sym c.in_ok-f.ensures.opened.number; station = c.in_ok-f.ensures.opened.station; fit = sym c.within_bounds.ensures ∙ c.if-not-within_bounds.false; room = c.if-out-f.false }

pub is_held-requires : goal.is_held-requires
is_held-requires c = asked (fitting c)

pub returns-then-is_held : goal.returns-then-is_held
returns-then-is_held c =
    answered_held (fitting (goal.at.returns-then-is_held c).Else-out-f) refl refl c.is_held.ensures c.if-is_held.true c.leaks.ensures

pub invariant_of-record : goal.invariant_of-record
invariant_of-record c =
    let q = fitting (goal.at.invariant_of-record c).Else-out-f in
    record { station = q.station; valid = q.valid; size = c.open_with.ensures.table }

pub invariant_of-decide : goal.invariant_of-decide
invariant_of-decide c =
    let q = fitting (goal.at.invariant_of-decide c).Else-out-f in
    let x = c.name_of-x.ensures in
    let y = c.right_of-y.ensures in
    record { subject = subject_byte q x y; column = column_byte q x y; number = number_byte q x y }

pub decide-requires : goal.decide-requires
decide-requires c =
    let q = fitting (goal.at.decide-requires c).Else-out-f in
    let x = c.name_of-x.ensures in
    let y = c.right_of-y.ensures in
    (asks_of q.valid q.station (trusted_by c.args.trust) (bit_asked q x y) q.room, unheld q x y c.is_held.ensures c.if-is_held.false)

pub returns : goal.returns
returns c =
    answered (fitting (goal.at.returns c).Else-out-f) c.name_of-x.ensures c.right_of-y.ensures c.decide.ensures
