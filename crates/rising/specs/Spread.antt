-- The bytes of a path: zeros stand before its subjects, so that the subjects tell the bytes.
use Rattle.std.specs.Prelude.{ℕ, ◌-◌, ◌≤◌, ◌≡◌, List, ◌++◌, length, take, drop, replicate}
use Rattle.std.proofs.Common.{arith, sym, ◌∙◌, ap, length-drop}
use Rattle.std.proofs.lemmas.List.{take-append-drop}
use Rattle.matrix.specs.Shape.{most_subjects}

abbrev pub Spread : List ℕ → ℕ → Type 0
Spread bs k = (k ≤ most_subjects) × (length bs ≡ most_subjects) × (take k bs ≡ replicate k 0)

pub first_back : (bs : List ℕ) (k : ℕ) → Spread bs k → most_subjects - length (drop k bs) ≡ k
first_back bs k h = omega (arith, length-drop k bs, h.0, h.1)

pub spread_back : (bs : List ℕ) (k : ℕ) → Spread bs k → replicate (most_subjects - length (drop k bs)) 0 ++ drop k bs ≡ bs
spread_back bs k h =
    ap (λ (n : ℕ). replicate n 0 ++ drop k bs) (first_back bs k h) ∙ ap (λ (l : List ℕ). l ++ drop k bs) (sym h.2) ∙ take-append-drop k bs
