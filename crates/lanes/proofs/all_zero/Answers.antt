-- `lanes::all_zero` meets its contract.
use Rattle.std.proofs.Common.{rules, ℕ, ◌≡◌, ◌∙◌, ap, eqb, bit_or}
use Rattle.std.specs.List.{fold}
use Rattle.lanes.specs.Folded.{fold_zero}
use Rattle.lanes.proofs.all_zero.Goals as goal

pub returns : goal.returns
returns c =
    let e : c.fold.result ≡ fold bit_or 0 c.args.b.now = search rules in
    ap (λ (x : ℕ). eqb x 0) e ∙ fold_zero c.args.b.now
