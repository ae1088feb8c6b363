-- `telling::is_among` meets its contract.
use Rattle.std.specs.Prelude.{ℕ, eqb}
use Rattle.std.proofs.Common.{rules, tests, ◌∙◌}
use Rattle.std.proofs.lemmas.Iterator.{YieldsList-from_slice}
use Rattle.std.proofs.lemmas.Iterator.Search.{any_from_yields_List}
use Rattle.telling.specs.Parts.{any_among}
use Rattle.telling.proofs.is_among.Goals as goal

pub returns : goal.returns
returns c =
    let a = c.args in
    any_from_yields_List (λ (w : ℕ). eqb a.s w) _ _ _ c.any.ensures.ran (YieldsList-from_slice a.path.now cc) (λ x b q k. search (rules, tests))
    ∙ any_among a.s a.path.now
