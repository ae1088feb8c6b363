-- `rising::rise_from` meets its contract.
use native.Mathlib.Omega.{arith}
use Rattle.std.proofs.Common.{ℕ, ◌+◌, ◌-◌, List, refl, sym, ◌∙◌, ap, subst, length}
use Rattle.matrix.specs.Reading.{state_of}
use Rattle.question.specs.Trust.{trusted_by}
use Rattle.states.specs.Reads.{top_is}
use Rattle.rising.specs.Shut.{Next, seen_none, seen_up}
use Rattle.rising.specs.Rising.{Rising, rising_none, risen_out, risen_met, rising_up, rise_found}
use Rattle.rising.proofs.rise_from.Goals as goal

pub loop-init : goal.loop-init
loop-init c =
    let q = c.requires in
    record {
      below = q.0;
      count = ap length c.new-passed.ensures;
      rising = rising_none _ c.new-passed.ensures (omega (arith, top_is _ _ c.args.r.now.station));
      shut = q.1;
      seen = seen_none _ q.1;
    }

pub returns-then-not-has : goal.returns-then-not-has
returns-then-not-has c =
    let i = c.loop.invariant in
    let r = c.args.r.now in
    let e = risen_met i.rising (omega arith) (sym c.has.ensures ∙ c.if-not-has.true) in
    record { risen = e; found = rise_found (state_of r.b.now) (trusted_by c.args.trust) (top_is _ _ r.station) c.requires.0 e; shut = i.shut }

pub loop-preserved : goal.loop-preserved
loop-preserved c =
    let i = c.loop.invariant in
    let S = state_of c.args.r.now.b.now in
    let t = sym c.has.ensures ∙ c.if-not-has.false in
    let next = subst (Next S c.loop.closed c.loop.at) c.in-Some.is c.next_up.ensures in
    record {
      below = omega (arith, (next.up _ refl).2, top_is _ _ c.args.r.now.station);
      count = omega (arith, ap length c.push.ensures);
      rising =
          subst (λ (ws : List ℕ). Rising S (trusted_by c.args.trust) c.args.w c.in-Some.owner ws (c.args.r.now.f.n - (c.loop.counter + 1))) (sym c.push.ensures)
          (rising_up i.rising (omega arith) t next (omega arith));
      shut = i.shut;
      seen = seen_up i.seen t next c.added-seen.ensures;
    }

pub returns : goal.returns
returns c = let i = c.loop.invariant in record { risen = risen_out i.rising (omega arith); found = tt; shut = i.shut }
