-- Laws of a record's cells: their places, and what a stored cell leaves as it was.
use Rattle.std.specs.Prelude.{ℕ, ◌^◌, ◌<◌, ◌≡◌, List}
use Rattle.matrix.specs.Bytes.{number_at}
use Rattle.matrix.specs.Shape.{shape_of, bits_of, columns, cell_place}
use Rattle.matrix.specs.Reading.{cell_at, set_cell}
use Rattle.matrix.specs.Shaped.{Shaped}
use Rattle.codec.specs.Numbers.{number_at_set_same, pow_bytes}
use Rattle.codec.specs.Cells.{cell_inside, shape_set}

pub cell_set_same : (b : List ℕ) (r c v : ℕ) → Shaped b → r < (shape_of b).n → c < columns (shape_of b) → v < 2 ^ bits_of (shape_of b)
    → cell_at (set_cell b r c v) r c ≡ v
unfolding cell_at
cell_set_same b r c v s h l k = rw (shape_set b r c v) (stored (rw (← pow_bytes (shape_of b).width) at k))
  where
    stored : v < 256 ^ (shape_of b).width → number_at (set_cell b r c v) (cell_place (shape_of b) r c) (shape_of b).width ≡ v
    stored z = unfold set_cell in number_at_set_same b (cell_place (shape_of b) r c) (shape_of b).width v (cell_inside b r c s h l) z
