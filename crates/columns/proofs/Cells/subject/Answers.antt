-- `columns::Cells::subject` meets its contract. By whether the subject exists.
use Rattle.std.proofs.Common.{rules, arith, ◌≡◌, ◌∙◌, ap, ◌<◌, ◌&&◌, Bool, not, sym, refl, get_or, eqb}
use Rattle.matrix.specs.Bytes.{bit}
use Rattle.matrix.specs.Shape.{most_subjects}
use Rattle.lanes.specs.Lanes.{row_place, row_bytes}
use Rattle.columns.specs.Cells.{last_counted}
use Rattle.columns.specs.Checks.{zero_from, unseen}
use Rattle.columns.specs.Loops.{subject_here, subject_absent, row_zeros, third_left, third_out}
use Rattle.columns.proofs.Cells.subject.Goals as goal

pub bounds-tally-j : goal.bounds-tally-j
bounds-tally-j g c = last_counted g.W.Width.one_or_two c.args.s _ (omega (arith, c.args.self.now.celled.subjects, c.requires)) c.last_lane-j.ensures

pub bounds-odd-j : goal.bounds-odd-j
bounds-odd-j g c = last_counted g.W.Width.one_or_two c.args.s _ (omega (arith, c.args.self.now.celled.subjects, c.requires)) c.last_lane-j.ensures

pub bits_of-requires : goal.bits_of-requires
bits_of-requires g c =
    let l : c.args.s < most_subjects = omega (arith, c.args.self.now.celled.subjects, c.requires) in
    (omega arith, omega (arith, last_counted g.W.Width.one_or_two c.args.s _ l refl))

pub returns-then-controls : goal.returns-then-controls
returns-then-controls g c = subject_here _ _ _ _ _ _ _ _ _ c.last_lane-j.ensures (sym (ap (bit 1) c.own.ensures.upper) ∙ sym c.controls.ensures ∙ c.if-controls.true) c.counts.ensures

pub returns-then-bits_of-eq0 : goal.returns-then-bits_of-eq0
returns-then-bits_of-eq0 g c =
    let a = c.args in
    let x : Bool = not (eqb a.s 0) in
    let y : Bool = unseen g.W.Width.LANES (λ j. get_or a.seen.now j 0) a.s in
    let v : c.if-s-ne0.value ≡ (x && y) = search rules in
    third_left x y _ _ (sym v ∙ c.if-bits_of-eq0.true) (c.all_zero.ensures ∙ row_zeros _ _ _ _ c.row.ensures)
    ∙ subject_absent _ _ _ _ _ _ _ (sym (ap (bit 1) c.own.ensures.upper) ∙ sym c.controls.ensures ∙ c.if-controls.false)

pub returns-else-bits_of-eq0 : goal.returns-else-bits_of-eq0
returns-else-bits_of-eq0 g c =
    let a = c.args in
    let m = a.self.now.lanes in
    let x : Bool = not (eqb a.s 0) in
    let y : Bool = unseen g.W.Width.LANES (λ j. get_or a.seen.now j 0) a.s in
    let z : Bool = zero_from m.bytes.now (row_place m.matrix a.s) (row_bytes m.matrix) in
    let v : c.if-s-ne0.value ≡ (x && y) = search rules in
    c.if-bits_of-eq0.false ∙ third_out x y z (sym v ∙ c.if-bits_of-eq0.false)
    ∙ subject_absent _ _ _ _ _ _ _ (sym (ap (bit 1) c.own.ensures.upper) ∙ sym c.controls.ensures ∙ c.if-controls.false)
