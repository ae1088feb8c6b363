-- `telling::put_destroys` meets its contract.
use native.Mathlib.Omega.{arith}
use Rattle.std.proofs.Common.{add-one, refl, ap, ◌∙◌, [], ◌∷◌, ◌++◌, take}
use Rattle.matrix.specs.declared.Fields.{Fields}
use Rattle.route.specs.Parts.{destroys_all}
use Rattle.telling.specs.Tells.{tells_none, tells_as, tells_then}
use Rattle.telling.specs.Parts.{destroys_none, destroys_more}
use Rattle.telling.proofs.put_destroys.Goals as goal

pub loop-w-init : goal.loop-w-init
loop-w-init c = record { told = tells_as (destroys_none c.args.v) (tells_none c.args.out.now 0); number = refl }

pub loop-w-preserved : goal.loop-w-preserved
loop-w-preserved c =
    let a = c.args in
    let i = c.loop-w.invariant in
    let ws = take c.loop-w.w-index a.path.now in
    record {
      told =
          rw add-one (tells_as (ap (λ (d : Fields). destroys_all a.v ws ++ (d ∷ [])) c.destroys.ensures ∙ destroys_more a.v a.path.now c.loop-w.w-index c.loop-w-test.true)
          (tells_then i.told c.put-j.ensures));
      number = omega (arith, c.put-j.ensures.next, i.number);
    }
