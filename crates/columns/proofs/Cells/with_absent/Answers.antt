-- `columns::Cells::with_absent` meets its contract. The list has what is seen in the lanes of the subjects.
use Rattle.std.proofs.Common.{arith, ◌≡◌, ◌∙◌, ℕ, sym, refl, subst, get_or}
use Rattle.matrix.specs.Bounded.{all}
use Rattle.lanes.specs.Lanes.{Seen, seen_at}
use Rattle.lanes.specs.Passing.{all_none, all_more, all_done, all_stop}
use Rattle.columns.specs.Cells.{most_counted, counted_most}
use Rattle.columns.specs.Checks.{subject_test}
use Rattle.columns.specs.Loops.{subjects_seen}
use Rattle.columns.proofs.Cells.with_absent.Goals as goal
use Rattle.columns.proofs.Cells.with_absent.Goals.{After-merge}

pub merge-requires : goal.merge-requires
merge-requires g c =
    let h = c.args.self.now.celled in
    let w = g.W.Width.one_or_two in
    (omega (arith, c.lanes_of.ensures, h.inside), omega (arith, c.lanes_of.ensures, counted_most w _ h.subjects), refl)

-- the subjects' tests, by the list
listed : (g : _) (c : After-merge g) →
    let m = c.args.self.now.lanes in
    all m.matrix.rows (subject_test g.W.Width.LANES m.bytes.now m.matrix (λ j. get_or c.merge.new.seen j 0) c.args.tally.now c.args.odd.now)
    ≡ all m.matrix.rows (subject_test g.W.Width.LANES m.bytes.now m.matrix (seen_at m.bytes.now m.matrix) c.args.tally.now c.args.odd.now)
listed g c =
    let m = c.args.self.now.lanes in
    subjects_seen g.W.Width.one_or_two _ m.matrix c.merge.new.seen c.args.tally.now c.args.odd.now _
    (subst (λ (k : ℕ). Seen m.bytes.now m.matrix 0 k most_counted c.merge.new.seen) c.lanes_of.ensures c.merge.ensures)

pub loop-s-init : goal.loop-s-init
loop-s-init g c = all_none _

pub returns-then-not-subject : goal.returns-then-not-subject
returns-then-not-subject g c =
    all_stop c.loop-s.s _ _ c.loop-s-test.true (sym c.subject.ensures ∙ c.if-not-subject.true)
    ∙ listed g (goal.at.returns-then-not-subject g c).After-merge

pub loop-s-preserved : goal.loop-s-preserved
loop-s-preserved g c = all_more c.loop-s.s _ c.loop-s.invariant (sym c.subject.ensures ∙ c.if-not-subject.false)

pub returns : goal.returns
returns g c = all_done _ _ _ (omega arith) (omega arith) c.loop-s.invariant ∙ listed g (goal.at.returns g c).After-merge
