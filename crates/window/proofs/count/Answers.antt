-- `window::count` meets its contract.
use Rattle.std.proofs.Common.{ℕ, List, ◌∙◌, ap, ap₂, refl}
use Rattle.matrix.specs.Bytes.{number_at}
use Rattle.history.specs.Window.{count_place}
use Rattle.window.specs.Answered.{count_shown}
use Rattle.window.proofs.count.Goals as goal

pub returns : goal.returns
returns c =
    count_shown c.in_ok-number.ensures.refusal refl
    (c.count_at.ensures ∙ ap₂ (λ (l : List ℕ) (n : ℕ). number_at l (count_place n) 2) c.in-Ok.ensures.1.same c.in_ok-number.ensures.same.0)
