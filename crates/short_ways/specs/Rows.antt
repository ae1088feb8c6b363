-- What holds of every row of the table of commands.
use Rattle.std.specs.Prelude.{ℕ, ◌<◌, ◌≡◌, refl, true, cond, eqb, ltb}
use Rattle.std.proofs.Common.{ltb-true}
use Rattle.matrix.specs.declared.Shape.{Shape}
use Rattle.matrix.specs.Commands.{kind_of, rule_of}
use Rattle.matrix.specs.Shape.{basics_of}
use Rattle.laws.specs.Rules.{every_rule}
use Rattle.rules.specs.Needs.{ActIn}

-- the kind that the row says is the act's
pub row_kind : (code k : ℕ) → (rule_of code k).kind ≡ kind_of (rule_of code k).act
row_kind code k =
    every_rule (λ j r. r.kind ≡ kind_of r.act) code k (refl, (refl, (refl, (refl, (refl, (refl, (refl, (refl, (refl, (refl, (refl, (refl, (refl, tt))))))))))))) (λ j. refl)

-- the right that the act names is one of the shape's where k fits the row
pub row_right : (f : Shape) (code k : ℕ) → cond (rule_of code k).k (ltb k (basics_of f)) (eqb k 0) ≡ true → ActIn f (rule_of code k).act
row_right f code k =
    every_rule (λ j r. cond r.k (ltb k (basics_of f)) (eqb k 0) ≡ true → ActIn f r.act) code k
    (below, (below, ((λ h. tt), (below, (below, ((λ h. tt), ((λ h. tt), (below, (below, ((λ h. tt), ((λ h. tt), ((λ h. tt), ((λ h. tt), tt)))))))))))))
    (λ j h. tt)
  where
    below : ltb k (basics_of f) ≡ true → k < basics_of f
    below = ltb-true k (basics_of f)
