-- The test that a search over the rows of a column makes of a row.
use Rattle.std.specs.Prelude.{ℕ, ◌+◌, ◌<◌, ◌≡◌, Bool, true, false, cond, not, ◌&&◌, ◌||◌, List, eqb, get_or}
use Rattle.std.proofs.Common.{add-one, sym, ◌∙◌, ap, ap₂, ⊎_elim}
use Rattle.std.specs.Int.Bits.{bit_or}
use Rattle.matrix.specs.declared.Shape.{Shape}
use Rattle.matrix.specs.Bounded.{any}
use Rattle.matrix.specs.Bytes.{bit}
use Rattle.matrix.specs.Reading.{cell_at}
use Rattle.laws.specs.BitOps.{bit_or_lem}
use Rattle.laws.specs.Tests.{way}
use Rattle.codec.specs.Bits.{bit_zero}
use Rattle.cells.specs.Station.{Station}
use Rattle.cells.specs.Places.{low_place, low_bit}

-- row r is not `skip`, and has bit j in column c
unfoldable pub row_has : List ℕ → ℕ → ℕ → ℕ → ℕ → Bool
row_has b c j skip r = not (eqb r skip) && bit j (cell_at b r c)

-- the byte x that row r adds to those that are seen: its cell's lowest, v, or 0 where it is left out
pub row_joined : {b : List ℕ} {f : Shape} {j v x : ℕ} (c skip r seen : ℕ) → Station b f → j < 8 → v ≡ get_or b (low_place f r c) 0 → x ≡ cond (eqb r skip) 0 v
    → bit j seen ≡ any r (row_has b c j skip) → bit j (bit_or seen x) ≡ any (r + 1) (row_has b c j skip)
unfolding any
row_joined {b} {f} {j} {v} {x} c skip r seen s k e g h =
    rw add-one (bit_or_lem j seen x ∙ ap₂ (λ (t u : Bool). t || u) h (ap (bit j) g ∙ ⊎_elim skipped read (way (eqb r skip))))
  where
    skipped : eqb r skip ≡ true → bit j (cond (eqb r skip) 0 v) ≡ row_has b c j skip r
    skipped t = unfold row_has in rw t (bit_zero j)

    read : eqb r skip ≡ false → bit j (cond (eqb r skip) 0 v) ≡ row_has b c j skip r
    read t = unfold row_has in rw t (ap (bit j) e ∙ sym (low_bit b f s j r c k))
