-- `window::empty` meets its contract.
use Rattle.std.proofs.Common.{ℕ, List, get_or, arith, ◌∙◌, ap}
use Rattle.std.proofs.lemmas.List.{get_or-replicate}
use Rattle.window.proofs.Shown.{zeros_show}
use Rattle.window.proofs.empty.Goals as goal

pub returns-then-w-eq-WINDOW_BYTES : goal.returns-then-w-eq-WINDOW_BYTES
returns-then-w-eq-WINDOW_BYTES c =
    let zeros = c.fill.ensures.after (λ y e. e) in
    record {
      shows = λ e. zeros_show _ (c.fill.ensures.len ∙ e) (λ j l. ap (λ (x : List ℕ). get_or x j 0) zeros ∙ get_or-replicate _ j 0 0 (omega arith));
      other = λ n. absurd (n c.if-w-eq-WINDOW_BYTES.true);
    }
