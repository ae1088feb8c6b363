-- `tallies::several` meets its contract: the halves that count lanes are put into the lists.
use borrow.Author.Rules.{rules}
use native.Mathlib.Omega.{arith}
use mathlib.Core.Bool.{Bool, true, false}
use mathlib.Core.Path.{refl, sym, ap, subst}
use Rattle.tallies.specs.Blocks.{at_once, Filling, filling_both}
use Rattle.tallies.specs.Halves.{lower, upper, unit_of, lanes_at, row_half, Halves, halves_low, taken_few, put_filling, put_sized}
use Rattle.tallies.proofs.several.Goals as goal
use Rattle.tallies.proofs.several.Goals.{Then-both, Else-both}

counted : (c : Then-both) → Halves (row_half true c.args.m.bytes.now c.args.m.matrix c.args.c) c.args.m.matrix.rows c.rows-counts.result
counted c =
    subst (λ (t : Bool). Halves (row_half t c.args.m.bytes.now c.args.m.matrix c.args.c) c.args.m.matrix.rows c.rows-counts.result) c.if-both.true c.rows-counts.ensures

counted_single : (c : Else-both) → Halves (row_half false c.args.m.bytes.now c.args.m.matrix c.args.c) c.args.m.matrix.rows c.rows-counts.result
counted_single c =
    subst (λ (t : Bool). Halves (row_half t c.args.m.bytes.now c.args.m.matrix c.args.c) c.args.m.matrix.rows c.rows-counts.result) c.if-both.false c.rows-counts.ensures

pub put_all-requires : goal.put_all-requires
unfolding unit_of
put_all-requires c =
    let p = c.requires in
    (search rules, omega (arith, p.2, ap lanes_at c.if-both.true), p.3, omega (arith, p.0), taken_few _ p.0 _ _ c.rows-counts.ensures lower)

pub put_all-requires-then-both : goal.put_all-requires-then-both
unfolding unit_of
put_all-requires-then-both c =
    let p = c.requires in
    (search rules, omega (arith, p.2, ap lanes_at c.if-both.true, c.put_all.ensures.sums.size), put_sized _ _ _ _ _ _ _ _ _ _ c.put_all.ensures p.3, omega (arith, p.0), taken_few _ p.0 _ _ c.rows-counts.ensures upper)

pub put_all-requires-else-both : goal.put_all-requires-else-both
unfolding unit_of
put_all-requires-else-both c =
    let p = c.requires in
    let k = halves_low _ _ _ _ c.rows-counts.ensures c.keep_low.ensures in
    (search rules, omega (arith, p.2, ap lanes_at c.if-both.false), p.3, omega (arith, p.0), taken_few _ p.0 _ _ k upper)

pub returns-then-both : goal.returns-then-both
unfolding unit_of row_half
returns-then-both c =
    let a = c.args in
    let k = counted (goal.at.returns-then-both c).Then-both in
    let f = λ (t : Bool). Filling a.m.bytes.now a.m.matrix a.c (lanes_at t) a.tally.now a.odd.now a.marks.now c.put_all-then-both.new.tally c.put_all-then-both.new.odd c.put_all-then-both.new.marks in
    subst f (sym c.if-both.true)
    (filling_both _ _ _ at_once at_once _ _ _ _ _ _ _ _ _ (put_filling _ _ _ lower _ _ _ _ _ _ _ _ c.requires.0 k (λ j. refl) c.put_all.ensures)
    (put_filling _ _ _ upper _ _ _ _ _ _ _ _ c.requires.0 k (λ j. refl) c.put_all-then-both.ensures))

pub returns-else-both : goal.returns-else-both
unfolding unit_of row_half
returns-else-both c =
    let a = c.args in
    let f = λ (t : Bool). Filling a.m.bytes.now a.m.matrix a.c (lanes_at t) a.tally.now a.odd.now a.marks.now c.put_all-else-both.new.tally c.put_all-else-both.new.odd c.put_all-else-both.new.marks in
    subst f (sym c.if-both.false)
    (put_filling _ _ _ upper _ _ _ _ _ _ _ _ c.requires.0 (halves_low _ _ _ _ (counted_single (goal.at.returns-else-both c).Else-both) c.keep_low.ensures) (λ j. refl)
    c.put_all-else-both.ensures)
