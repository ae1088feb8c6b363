-- What a stored cell does to the state that is read: one bit of it set or cleared is that bit put in the state, and zero there clears the
-- state's cell.
use Rattle.std.specs.Prelude.{ℕ, ◌^◌, ◌<◌, ◌≡◌, Bool, true, false, cond, List, eqb, ltb}
use Rattle.std.proofs.Common.{sym, ◌∙◌, ap, ⊎_elim, pow_pos}
use Rattle.matrix.specs.declared.Name.{Name}
use Rattle.matrix.specs.declared.Right.{Right}
use Rattle.matrix.specs.declared.Shape.{Shape}
use Rattle.matrix.specs.Names.{name_of, column_of, named}
use Rattle.matrix.specs.Rights.{code_of}
use Rattle.matrix.specs.State.{has, is_cell, put, clear}
use Rattle.matrix.specs.Bytes.{bit}
use Rattle.matrix.specs.Shape.{shape_of, bits_of, columns}
use Rattle.matrix.specs.Reading.{cell_at, set_cell, bit_at, state_of}
use Rattle.matrix.specs.Shaped.{Shaped, Octets}
use Rattle.laws.specs.Tests.{way, clash}
use Rattle.laws.specs.Same.{is_cell_at, is_cell_row, is_cell_column}
use Rattle.codec.specs.Bits.{bit_zero, with_bit}
use Rattle.codec.proofs.Bits.{bit_with_bit, with_bit_below}
use Rattle.codec.specs.Cells.{shape_set, cell_below, cell_set_other}
use Rattle.codec.proofs.Cells.{cell_set_same}
use Rattle.codec.specs.Columns.{name_of_column_of, named_below, same_state, has_put, top_put, has_clear}
use Rattle.codec.specs.Update.{bit_at_bounded, has_state, one_bit, same_within, top_set}

-- the bits that are read of a stored cell
bit_at_stored : (b : List ℕ) (r c v j : ℕ) → Shaped b → r < (shape_of b).n → c < columns (shape_of b) → v < 2 ^ bits_of (shape_of b)
    → bit_at (set_cell b r c v) j r (name_of (shape_of b).n c) ≡ bit j v
bit_at_stored b r c v j s row column below =
    ap (λ (f : Shape). bit_at (set_cell b r c v) j r (name_of f.n c)) (sym e)
    ∙ bit_at_bounded (set_cell b r c v) r c (rw e row) (rw e column) j (rw (e, same) below) ∙ ap (bit j) same
  where
    e : shape_of (set_cell b r c v) ≡ shape_of b
    e = shape_set b r c v

    same : cell_at (set_cell b r c v) r c ≡ v
    same = cell_set_same b r c v s row column below

-- every bit that is read after a cell is stored: the stored number's in that cell, the old one elsewhere
pub bit_at_set : (b : List ℕ) (r c v j w : ℕ) (x : Name) → Shaped b → r < (shape_of b).n → c < columns (shape_of b)
    → v < 2 ^ bits_of (shape_of b) → bit_at (set_cell b r c v) j w x ≡ cond (is_cell r (name_of (shape_of b).n c) w x) (bit j v) (bit_at b j w x)
unfolding bit_at
bit_at_set b r c v j w x s row column below = ⊎_elim here other (way (is_cell r (name_of (shape_of b).n c) w x))
  where
    n : ℕ
    n = (shape_of b).n

    p : ℕ
    p = (shape_of b).p

    here : is_cell r (name_of n c) w x ≡ true → bit_at (set_cell b r c v) j w x ≡ cond (is_cell r (name_of n c) w x) (bit j v) (bit_at b j w x)
    here e =
        rw e
        (ap (λ (y : Name). bit_at (set_cell b r c v) j w y) (is_cell_column r (name_of n c) w x e)
        ∙ ap (λ (i : ℕ). bit_at (set_cell b r c v) j i (name_of n c)) (is_cell_row r (name_of n c) w x e) ∙ bit_at_stored b r c v j s row column below)

    other : is_cell r (name_of n c) w x ≡ false → bit_at (set_cell b r c v) j w x ≡ cond (is_cell r (name_of n c) w x) (bit j v) (bit_at b j w x)
    other e =
        rw (e, shape_set b r c v)
        (same_within (ltb w n) (named n p x) (ltb j (bits_of (shape_of b))) (bit j (cell_at (set_cell b r c v) w (column_of x))) (bit j (cell_at b w (column_of x)))
        (λ t u. ap (bit j) (cell_set_other b r c v w (column_of x) column (named_below n p x u) (apart u))))
      where
        apart : named n p x ≡ true → r ≡ w → c ≡ column_of x → ⊥
        apart u h l =
            let q : name_of n c ≡ x = ap (name_of n) l ∙ name_of_column_of n p x u in
            clash (is_cell_at r (name_of n c) w x (sym h) (sym q)) e

-- ---- the state
pub has_set : (b : List ℕ) (r c v : ℕ) (y : Right) (w : ℕ) (x : Name) → Shaped b → r < (shape_of b).n → c < columns (shape_of b)
    → v < 2 ^ bits_of (shape_of b)
    → has (state_of (set_cell b r c v)) y w x ≡ cond (is_cell r (name_of (shape_of b).n c) w x) (bit (code_of y) v) (has (state_of b) y w x)
has_set b r c v y w x s row column below =
    has_state (set_cell b r c v) y w x ∙ bit_at_set b r c v (code_of y) w x s row column below
    ∙ ap (cond (is_cell r (name_of (shape_of b).n c) w x) (bit (code_of y) v)) (sym (has_state b y w x))

pub state_put : (b : List ℕ) (r c : ℕ) (y : Right) (on : Bool) → Shaped b → Octets b → r < (shape_of b).n → c < columns (shape_of b)
    → code_of y < bits_of (shape_of b)
    → state_of (set_cell b r c (with_bit (code_of y) on (cell_at b r c))) ≡ put y r (name_of (shape_of b).n c) on (state_of b)
state_put b r c y on s o row column room =
    same_state (state_of (set_cell b r c v)) (put y r name on (state_of b)) (top_set b r c v ∙ sym (top_put y r name on (state_of b))) each
  where
    name : Name
    name = name_of (shape_of b).n c

    v : ℕ
    v = with_bit (code_of y) on (cell_at b r c)

    below : v < 2 ^ bits_of (shape_of b)
    below = with_bit_below (bits_of (shape_of b)) (code_of y) on (cell_at b r c) room (cell_below b r c o)

    -- the old bit in the cell, by the cell's number
    old : (z : Right) (w : ℕ) (x : Name) → is_cell r name w x ≡ true → has (state_of b) z w x ≡ bit (code_of z) (cell_at b r c)
    old z w x e =
        ap (has (state_of b) z w) (is_cell_column r name w x e) ∙ ap (λ (i : ℕ). has (state_of b) z i name) (is_cell_row r name w x e)
        ∙ has_state b z r name ∙ bit_at_bounded b r c row column (code_of z) (cell_below b r c o)

    each : (z : Right) (w : ℕ) (x : Name) → has (state_of (set_cell b r c v)) z w x ≡ has (put y r name on (state_of b)) z w x
    each z w x =
        has_set b r c v z w x s row column below
        ∙ one_bit (is_cell r name w x) (eqb (code_of z) (code_of y)) on (bit (code_of z) (cell_at b r c)) (has (state_of b) z w x) (bit (code_of z) v)
        (bit_with_bit (code_of z) (code_of y) on (cell_at b r c)) (old z w x)
        ∙ sym (has_put y r name on (state_of b) z w x)

pub state_clear : (b : List ℕ) (r c : ℕ) → Shaped b → r < (shape_of b).n → c < columns (shape_of b)
    → state_of (set_cell b r c 0) ≡ clear (λ w x. is_cell r (name_of (shape_of b).n c) w x) (state_of b)
state_clear b r c s row column =
    same_state (state_of (set_cell b r c 0)) (clear (λ w x. is_cell r (name_of (shape_of b).n c) w x) (state_of b)) (top_set b r c 0)
    (λ y w x. has_set b r c 0 y w x s row column (pow_pos (bits_of (shape_of b)))
    ∙ ap (λ (t : Bool). cond (is_cell r (name_of (shape_of b).n c) w x) t (has (state_of b) y w x)) (bit_zero (code_of y))
    ∙ sym (has_clear (λ w x. is_cell r (name_of (shape_of b).n c) w x) (state_of b) y w x))
