-- `owner_table::rooted` meets its contract. With each pass the two tables follow owners twice as far as the other did.
use Rattle.std.proofs.Common.{arith, ◌≡◌, ◌∙◌, ◌^◌, ◌+◌, sym, length, eqb}
use Rattle.std.proofs.lemmas.List.{length-take-le}
use Rattle.matrix.specs.Bounded.{all}
use Rattle.owner_table.specs.Followed.{followed}
use Rattle.owner_table.specs.Table.{owner_in, Follows, follows_once, follows_twice, follows_inside, follows_rooted, passes_more, passes_few, lower_rooted, rooted_longer}
use Rattle.owner_table.proofs.rooted.Goals as goal
use Rattle.owner_table.proofs.rooted.Goals.{After-all_zero}

pub returns-then-descends : goal.returns-then-descends
returns-then-descends c = sym (lower_rooted _ _ (omega (arith, c.requires.few)) (sym c.descends.ensures ∙ c.if-descends.true))

pub loop-pass-init : goal.loop-pass-init
loop-pass-init c = record {
  follows = rw c.copy_from_slice.ensures.after (follows_once c.args.owners.now);
  room = length-take-le _ _ c.requires.few;
  unrooted = λ h. absurd (omega arith);
}

pub double-requires-clause-inside : goal.double-requires-clause-inside
double-requires-clause-inside c = follows_inside _ _ _ _ c.requires.inside c.loop-pass.invariant.follows

pub double-requires-in-loop-pass-clause-inside : goal.double-requires-in-loop-pass-clause-inside
double-requires-in-loop-pass-clause-inside c =
    follows_inside _ _ _ _ c.requires.inside (follows_twice _ _ _ _ _ c.requires.inside c.loop-pass.invariant.follows c.double.ensures)

-- what the second table follows at the end of a pass, and whether all have come to U
further : (c : After-all_zero) → Follows (length c.args.owners.now) (owner_in c.args.owners.now) (4 ^ (c.loop-pass.pass + 1)) c.double-in-loop-pass.new.u
further c =
    passes_more _ _ c.loop-pass.pass _ _ _ c.requires.inside c.loop-pass.invariant.follows c.double.ensures c.double-in-loop-pass.ensures

tested : (c : After-all_zero) → c.all_zero.result ≡ all (length c.args.owners.now) (λ s. eqb (followed (owner_in c.args.owners.now) (4 ^ (c.loop-pass.pass + 1)) s) 0)
tested c = c.all_zero.ensures ∙ follows_rooted _ _ _ _ (further c)

pub returns-then-all_zero : goal.returns-then-all_zero
returns-then-all_zero c =
    sym (rooted_longer _ _ _ _ c.requires.inside (passes_few (c.loop-pass.pass + 1) (omega arith)) (sym (tested (goal.at.returns-then-all_zero c).After-all_zero) ∙ c.if-all_zero.true))

pub loop-pass-preserved : goal.loop-pass-preserved
loop-pass-preserved c = record {
  follows = further (goal.at.loop-pass-preserved c).After-all_zero;
  room = omega (arith, c.double.ensures.size, c.loop-pass.invariant.follows.size);
  unrooted = λ h. sym (tested (goal.at.loop-pass-preserved c).After-all_zero) ∙ c.if-all_zero.false;
}

pub returns : goal.returns
returns c =
    let l = c.loop-pass in
    let e : l.pass ≡ 3 = omega arith in
    sym (rw e at (l.invariant.unrooted (omega arith)))
