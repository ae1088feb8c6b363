-- The commands that are left of a list at a position, and the one that is read next there.
use Rattle.std.specs.Prelude.{ℕ, zero, suc, ◌+◌, ◌-◌, ◌≡◌, List, [], ◌∷◌, drop, Option, Some, None}
use Rattle.std.proofs.Common.{arith, ap, ◌∙◌}
use Rattle.matrix.specs.declared.Fields.{Fields}
use Rattle.matrix.specs.CommandList.{commands_from, commands_of}

-- at position j the first j commands of the list are behind the reader
unfoldable pub commands_left : List ℕ → ℕ → List Fields
commands_left l j = drop j (commands_of l)

-- of the commands that are left, the first, or the end
abbrev pub first_of : List Fields → Option Fields
first_of [] = None
first_of (c ∷ cs) = Some c

unfoldable pub command_at : List ℕ → ℕ → Option Fields
command_at l j = first_of (commands_left l j)

-- m commands from the one numbered i on, without the first j of them
pub dropped : (l : List ℕ) (j i m : ℕ) → drop j (commands_from l i m) ≡ commands_from l (i + j) (m - j)
unfolding commands_from
dropped l zero i m =
    let a : i ≡ i + 0 = omega arith in
    let b : m ≡ m - 0 = omega arith in
    λ x. commands_from l (a x) (b x)
dropped l (suc j) i zero =
    let b : ◌≡◌ {A = ℕ} 0 (0 - suc j) = omega arith in
    ap (λ (k : ℕ). commands_from l (i + suc j) k) b
dropped l (suc j) i (suc m) =
    let a : suc i + j ≡ i + suc j = omega arith in
    let b : m - j ≡ suc m - suc j = omega arith in
    dropped l j (suc i) m ∙ (λ x. commands_from l (a x) (b x))
