-- `row_search::first_block` meets its contract.
use borrow.Author.Rules.{rules}
use Prim.Native.Nat.{ℕ, ◌/◌}
use mathlib.Core.Path.{◌≡◌, ◌∙◌}
use mathlib.Core.Bool.{Bool, true, false}
use Rattle.std.proofs.Common.{tests}
use Rattle.std.proofs.lemmas.Iterator.{first_from_Range}
use Rattle.row_search.specs.SomeBelow.{first_below, least_or}
use Rattle.row_search.specs.Blocks.{block_has}
use Rattle.row_search.proofs.first_block.Goals as goal

pub returns : goal.returns
returns c =
    let a = c.args in
    let has : ℕ → Bool = block_has a.b.now a.c a.j in
    c.unwrap_or.ensures
    ∙ least_or _ has
    (first_below (a.f.n / 4) has _
    (first_from_Range _ _ _ _ (λ q. has q ≡ true) (λ q. has q ≡ false) c.find-found.ensures.ran (λ q s k. search (rules, tests)) (λ q s k. search (rules, tests))))
