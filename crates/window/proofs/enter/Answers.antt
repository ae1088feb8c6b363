-- `window::enter` meets its contract.
use Rattle.std.proofs.Common.{ℕ, ◌+◌, ◌*◌, List, get_or, sym, ◌∙◌, ap₂}
use Rattle.matrix.specs.Bytes.{set_number}
use Rattle.matrix.specs.Numbers.{truth}
use Rattle.history.specs.Window.{count_place, next_place}
use Rattle.laws.specs.Numbers.{digit}
use Rattle.octets.proofs.Numbers.{two_cut}
use Rattle.window.specs.Changed.{placed, raised, entered}
use Rattle.window.proofs.enter.Goals as goal

pub returns : goal.returns
unfolding entered placed raised
returns c =
    let a = c.args in
    let place = get_or a.w.now next_place 0 in
    let more = truth a.refused in
    let bit = digit a.refused in
    let w = placed c.lower.new.w place (c.from.result * (a.number + 1)) in
    c.set_count.ensures ∙ two_cut w (count_place a.number) (c.count_at-v.result + c.from-2.result)
    ∙ ap₂ (λ (v x : ℕ). set_number w (count_place a.number) 2 (v + x)) c.count_at-v.ensures (c.from-2.ensures ∙ sym bit)
    ∙ ap₂ (λ (l : List ℕ) (x : ℕ). raised (placed l place (x * (a.number + 1))) a.number more) c.lower.ensures (c.from.ensures ∙ sym bit)
