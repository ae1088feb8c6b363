-- `climbing::needed_of` meets its contract.
use native.Mathlib.Omega.{arith}
use Rattle.std.proofs.Common.{ℕ, ◌<◌, add-one, sym, ◌∙◌, ap, subst}
use Rattle.matrix.specs.declared.Name.TheVariants.{Plain}
use Rattle.matrix.specs.Reading.{state_of}
use Rattle.climbing.specs.Needed.{until_hit, until_all, before_last}
use Rattle.climbing.proofs.needed_of.Goals as goal

pub returns-in_default : goal.returns-in_default
returns-in_default c = let z = c.in_default.ensures.cases in sym z ∙ until_all _ _ c.args.path.now (λ k b. absurd (omega arith))

pub has_bit-requires : goal.has_bit-requires
has_bit-requires c =
    let z = c.args in
    let e = c.in-Some.ensures.cases in
    record {
      station = c.requires.0.station;
      right = tt;
      row = subst (λ (w : ℕ). w < z.r.now.f.n) (before_last _ _ _ _ e.0 c.loop-t-test.true) (c.requires.1 c.loop-t.t 0 (omega (arith, e.1, c.loop-t-test.true)));
      column = c.requires.0.column;
    }

pub returns-then-has_bit : goal.returns-then-has_bit
returns-then-has_bit c =
    let z = c.args in
    let e = c.in-Some.ensures.cases in
    add-one c.loop-t.t ∙ until_hit _ _ z.path.now c.loop-t.t (omega (arith, e.1, c.loop-t-test.true)) c.loop-t.invariant
    (ap (λ (w : ℕ). (state_of z.r.now.b.now).owns w (Plain z.o)) (before_last _ _ _ _ e.0 c.loop-t-test.true) ∙ sym c.has_bit.ensures ∙ c.if-has_bit.true)

pub returns : goal.returns
returns c = until_all _ _ c.args.path.now (λ k b. c.loop-t.invariant k (omega (arith, c.in-Some.ensures.cases.1)))
