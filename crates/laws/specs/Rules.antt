-- The rows of the table of commands: what holds of every row holds of a code's row.
use Rattle.std.specs.Prelude.{ℕ, zero, suc, ◌-◌, List, [], ◌∷◌, get_or}
use Rattle.matrix.specs.declared.Rule.{Rule}
use Rattle.matrix.specs.Commands.{rule_of, rules}

-- every rule of a list has a property of its place and itself
abbrev pub Every : (ℕ → Rule → Type 0) → List Rule → Type 0
Every P [] = Unit
Every P (r ∷ rs) = P 0 r × Every (λ j. P (suc j)) rs

-- what every rule of a list has, and the rule beyond it at each place, has the rule at any place
pub every_get_or : (P : ℕ → Rule → Type 0) (rs : List Rule) (j : ℕ) (d : Rule) → Every P rs → ((j : ℕ) → P j d) → P j (get_or rs j d)
every_get_or P [] j d each beyond = beyond j
every_get_or P (r ∷ rs) zero d each beyond = each.0
every_get_or P (r ∷ rs) (suc j) d each beyond = every_get_or (λ j. P (suc j)) rs j d each.1 (λ j. beyond (suc j))

-- so has the row of a code, where 0 has that of code 1 and every number above 13 that of code 13
pub every_rule : (P : ℕ → Rule → Type 0) (code k : ℕ) → Every P (rules k) → ((j : ℕ) → P j (rule_of 13 k)) → P (code - 1) (rule_of code k)
every_rule P code k each beyond = every_get_or P (rules k) (code - 1) (rule_of 13 k) each beyond
