-- `row_search::first_row` meets its contract.
use borrow.Author.Rules.{rules}
use Prim.Native.Nat.{ℕ}
use mathlib.Core.Path.{◌≡◌}
use mathlib.Core.Bool.{Bool, true, false}
use Rattle.std.proofs.Common.{tests}
use Rattle.std.proofs.lemmas.Iterator.{first_from_Range}
use Rattle.matrix.specs.Bytes.{bit}
use Rattle.matrix.specs.Reading.{cell_at}
use Rattle.row_search.specs.SomeBelow.{first_below}
use Rattle.row_search.proofs.first_row.Goals as goal

pub returns : goal.returns
returns c =
    let a = c.args in
    let has : ℕ → Bool = λ r. bit a.j (cell_at a.b.now r a.c) in
    first_below a.f.n has _
    (first_from_Range _ _ _ _ (λ r. has r ≡ true) (λ r. has r ≡ false) c.find.ensures.ran (λ r s k. search (rules, tests)) (λ r s k. search (rules, tests)))
