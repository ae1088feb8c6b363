-- Blocks of four rows, whose bytes in a column are tested together.
use Rattle.std.specs.Prelude.{ℕ, ◌+◌, ◌*◌, ◌/◌, ◌%◌, ◌<◌, ◌≡◌, Bool, false, ◌||◌, List, get_or}
use Rattle.std.proofs.Common.{arith, sym, ◌∙◌, ap, ap₂, subst}
use Rattle.std.specs.Int.Bits.{bit_or}
use Rattle.matrix.specs.declared.Shape.{Shape}
use Rattle.matrix.specs.Bounded.{any}
use Rattle.matrix.specs.Bytes.{bit}
use Rattle.matrix.specs.Reading.{cell_at}
use Rattle.laws.specs.BitOps.{bit_or_lem}
use Rattle.laws.specs.Bounded.{any_none}
use Rattle.cells.specs.Station.{Station}
use Rattle.cells.specs.Places.{low_place, low_bit}

-- one of the four rows of block q has bit j in column c
unfoldable pub block_has : List ℕ → ℕ → ℕ → ℕ → Bool
block_has b c j q = any 4 (λ i. bit j (cell_at b (4 * q + i) c))

-- a bit of the lowest bytes of the block's cells, joined, is that of one of the cells
pub block_joined : {b : List ℕ} {f : Shape} {j v₀ v₁ v₂ v₃ : ℕ} (c q : ℕ) → Station b f → j < 8
    → v₀ ≡ get_or b (low_place f (4 * q) c) 0 → v₁ ≡ get_or b (low_place f (4 * q + 1) c) 0
    → v₂ ≡ get_or b (low_place f (4 * q + 2) c) 0 → v₃ ≡ get_or b (low_place f (4 * q + 3) c) 0
    → bit j (bit_or (bit_or (bit_or v₀ v₁) v₂) v₃) ≡ block_has b c j q
unfolding any block_has
block_joined {b} {f} {j} {v₀} {v₁} {v₂} {v₃} c q s k e₀ e₁ e₂ e₃ =
    bit_or_lem j _ v₃
    ∙ ap₂ (λ (t u : Bool). t || u)
    (bit_or_lem j _ v₂
    ∙ ap₂ (λ (t u : Bool). t || u) (bit_or_lem j v₀ v₁ ∙ ap₂ (λ (t u : Bool). t || u) (read 0 (e₀ ∙ first)) (read 1 e₁)) (read 2 e₂))
    (read 3 e₃)
  where
    first : get_or b (low_place f (4 * q) c) 0 ≡ get_or b (low_place f (4 * q + 0) c) 0
    first = let e : 4 * q ≡ 4 * q + 0 = omega arith in ap (λ (r : ℕ). get_or b (low_place f r c) 0) e

    read : {v : ℕ} (i : ℕ) → v ≡ get_or b (low_place f (4 * q + i) c) 0 → bit j v ≡ bit j (cell_at b (4 * q + i) c)
    read i e = ap (bit j) e ∙ sym (low_bit b f s j (4 * q + i) c k)

-- where no block below q has the bit, no row of theirs has it
pub blocks_clear : (b : List ℕ) (c j q : ℕ) → any q (block_has b c j) ≡ false → (r : ℕ) → r < 4 * q → bit j (cell_at b r c) ≡ false
unfolding block_has
blocks_clear b c j q h r l =
    let e : 4 * (r / 4) + r % 4 ≡ r = omega arith in
    subst (λ (x : ℕ). bit j (cell_at b x c) ≡ false) e
    (any_none 4 (λ i. bit j (cell_at b (4 * (r / 4) + i) c)) (r % 4)
    (any_none q (λ m. any 4 (λ i. bit j (cell_at b (4 * m + i) c))) (r / 4) h (omega arith)) (omega arith))
