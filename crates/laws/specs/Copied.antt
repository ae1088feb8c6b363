-- Bytes copied over as many.
use Rattle.std.specs.Prelude.{ℕ, ◌≡◌, List, ◌++◌, length, take, drop}
use Rattle.std.proofs.Common.{sym, ◌∙◌, ap, ap₂, append-nil}
use Rattle.std.proofs.Math.Seq.{take-length, drop-length}

pub copied_over : (b out : List ℕ) → length out ≡ length b → take (length b) b ++ drop (length b) out ≡ b
copied_over b out e =
    ap₂ {C = List ℕ} (λ x y. x ++ y) (take-length b) (ap (λ (m : ℕ). drop m out) (sym e) ∙ drop-length out) ∙ append-nil b
