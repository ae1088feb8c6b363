-- What a stored cell does to the state that is read: one bit of it set or cleared is that bit put in the state, and zero there clears the
-- state's cell.
use Rattle.std.specs.Prelude.{ℕ, ◌^◌, ◌<◌, ◌≡◌, refl, Bool, true, false, cond, ◌&&◌, List, ltb}
use Rattle.std.proofs.Common.{sym, ◌∙◌, ap, ⊎_elim, lt-ltb, ltb-true, ltb-false}
use Rattle.matrix.specs.declared.Name.{Name}
use Rattle.matrix.specs.declared.Right.{Right}
use Rattle.matrix.specs.declared.Right.TheVariants.{Own, Control, Basic}
use Rattle.matrix.specs.declared.Shape.{Shape}
use Rattle.matrix.specs.Names.{name_of, column_of, named}
use Rattle.matrix.specs.Rights.{code_of}
use Rattle.matrix.specs.State.{has}
use Rattle.matrix.specs.Bytes.{bit}
use Rattle.matrix.specs.Shape.{shape_of, bits_of, columns}
use Rattle.matrix.specs.Reading.{cell_at, set_cell, bit_at, state_of}
use Rattle.laws.specs.Tests.{way}
use Rattle.codec.specs.Bits.{bit_beyond}
use Rattle.codec.specs.Cells.{shape_set}
use Rattle.codec.specs.Columns.{column_of_name_of, named_name_of}

-- a right's bit in the state that is read is the one of its code
pub has_state : (b : List ℕ) (y : Right) (w : ℕ) (x : Name) → has (state_of b) y w x ≡ bit_at b (code_of y) w x
unfolding state_of
has_state b Own w x = refl
has_state b Control w x = refl
has_state b (Basic k f) w x = refl

-- where the tests before the bit pass, two bits are the same if they are the same at all
pub same_within : (t u v a d : Bool) → (t ≡ true → u ≡ true → a ≡ d) → (t && u && v && a) ≡ (t && u && v && d)
same_within true true v a d h = ap (λ (z : Bool). v && z) (h refl refl)
same_within true false v a d h = refl
same_within false u v a d h = refl

-- no bit is read beyond the cell's
none_beyond : (b : List ℕ) (j w : ℕ) (x : Name) → ltb j (bits_of (shape_of b)) ≡ false → bit_at b j w x ≡ false
unfolding bit_at
none_beyond b j w x h = rw h (nothing (ltb w (shape_of b).n) (named (shape_of b).n (shape_of b).p x) (bit j (cell_at b w (column_of x))))
  where
    nothing : (t u a : Bool) → (t && u && false && a) ≡ false
    nothing true true a = refl
    nothing true false a = refl
    nothing false u a = refl

-- a bit of a row and a name of the record
pub bit_at_named : (b : List ℕ) (j w : ℕ) (x : Name) → w < (shape_of b).n → named (shape_of b).n (shape_of b).p x ≡ true
    → j < bits_of (shape_of b) → bit_at b j w x ≡ bit j (cell_at b w (column_of x))
unfolding bit_at
bit_at_named b j w x row column room = rw (lt-ltb w (shape_of b).n row, column, lt-ltb j (bits_of (shape_of b)) room) refl

pub bit_named : (b : List ℕ) (y : Right) (w : ℕ) (x : Name) → w < (shape_of b).n → named (shape_of b).n (shape_of b).p x ≡ true
    → code_of y < bits_of (shape_of b) → has (state_of b) y w x ≡ bit (code_of y) (cell_at b w (column_of x))
bit_named b y w x row column room = has_state b y w x ∙ bit_at_named b (code_of y) w x row column room

module _ (b : List ℕ) (r c : ℕ) (row : r < (shape_of b).n) (column : c < columns (shape_of b)) where
  -- a bit of a cell of the record
  pub bit_at_cell : (j : ℕ) → j < bits_of (shape_of b) → bit_at b j r (name_of (shape_of b).n c) ≡ bit j (cell_at b r c)
  bit_at_cell j h =
      bit_at_named b j r (name_of (shape_of b).n c) row (named_name_of (shape_of b).n (shape_of b).p c column) h
      ∙ ap (λ (d : ℕ). bit j (cell_at b r d)) (column_of_name_of (shape_of b).n c)

  pub bit_read : (y : Right) → code_of y < bits_of (shape_of b) → has (state_of b) y r (name_of (shape_of b).n c) ≡ bit (code_of y) (cell_at b r c)
  bit_read y h = has_state b y r (name_of (shape_of b).n c) ∙ bit_at_cell (code_of y) h

  -- where the cell's number is one of the cell's bits, every bit of it is read
  pub bit_at_bounded : (j : ℕ) → cell_at b r c < 2 ^ bits_of (shape_of b) → bit_at b j r (name_of (shape_of b).n c) ≡ bit j (cell_at b r c)
  bit_at_bounded j o = ⊎_elim (λ h. bit_at_cell j (ltb-true j (bits_of (shape_of b)) h)) beyond (way (ltb j (bits_of (shape_of b))))
    where
      beyond : ltb j (bits_of (shape_of b)) ≡ false → bit_at b j r (name_of (shape_of b).n c) ≡ bit j (cell_at b r c)
      beyond h =
          none_beyond b j r (name_of (shape_of b).n c) h
          ∙ sym (bit_beyond (bits_of (shape_of b)) j (cell_at b r c) o (ltb-false j (bits_of (shape_of b)) h))

pub top_set : (b : List ℕ) (r c v : ℕ) → (state_of (set_cell b r c v)).top ≡ (state_of b).top
unfolding state_of
top_set b r c v = ap (λ (f : Shape). f.n) (shape_set b r c v)

-- a new number in the cell that differs in one bit
pub one_bit : (cell code on a old new : Bool) → new ≡ cond code on a → (cell ≡ true → old ≡ a) → cond cell new old ≡ cond (code && cell) on old
one_bit true true on a old new h k = h
one_bit true false on a old new h k = h ∙ sym (k refl)
one_bit false true on a old new h k = refl
one_bit false false on a old new h k = refl
