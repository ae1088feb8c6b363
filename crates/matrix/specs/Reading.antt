-- What is read from a record's bytes, and the bytes that it is written as (Manual 2).
use Rattle.std.specs.Prelude.{ℕ, Bool, ◌&&◌, List, [], ◌∷◌, ◌++◌, ltb}
use Rattle.matrix.specs.declared.Name.{Name}
use Rattle.matrix.specs.declared.Right.TheVariants.{Own, Control, Basic}
use Rattle.matrix.specs.declared.Shape.{Shape}
use Rattle.matrix.specs.Names.{name_of, column_of, named}
use Rattle.matrix.specs.Rights.{code_of, right_of}
use Rattle.matrix.specs.State.{State, has}
use Rattle.matrix.specs.Bytes.{number_at, set_number, bytes_of_number, bit, from_bits, joined}
use Rattle.matrix.specs.Shape.{shape_of, bits_of, columns, cell_place, count_of}

-- the cell of row r and column c, as a number; the bytes with another number there
unfoldable pub cell_at : List ℕ → ℕ → ℕ → ℕ
cell_at b r c = number_at b (cell_place (shape_of b) r c) (shape_of b).width

unfoldable pub set_cell : List ℕ → ℕ → ℕ → ℕ → List ℕ
set_cell b r c v = set_number b (cell_place (shape_of b) r c) (shape_of b).width v

-- bit j of the cell of row w and column x; of a cell beyond the record no bit is set
unfoldable pub bit_at : List ℕ → ℕ → ℕ → Name → Bool
bit_at b j w x =
    ltb w (shape_of b).n && named (shape_of b).n (shape_of b).p x && ltb j (bits_of (shape_of b)) && bit j (cell_at b w (column_of x))

-- Row s has the bits of subject s, and a right's bit is the one of its code. `top` is n.
unfoldable pub state_of : List ℕ → State
state_of b =
    record { top = (shape_of b).n; owns = bit_at b (code_of Own); controls = bit_at b (code_of Control); basic = λ k f. bit_at b (code_of (Basic k f)) }

-- What a record holds: its shape, so that version, n and p are kept, and its state.
pub record Content : Type 0 where
  pub shape : Shape
  pub state : State

abbrev pub content : Shape → State → Content
content f S = record { shape = f; state = S }

abbrev pub content_of : List ℕ → Content
content_of b = content (shape_of b) (state_of b)

-- the cell's number in a state, and the bytes of a row
abbrev pub cell_of : Shape → State → ℕ → ℕ → ℕ
cell_of f S r c = from_bits (bits_of f) (λ j. has S (right_of j) r (name_of f.n c))

abbrev pub row_of : Shape → State → ℕ → List ℕ
row_of f S r = joined (columns f) (λ c. bytes_of_number f.width (cell_of f S r c))

-- the bytes before the first cell: version, L, n and p
abbrev pub header : Shape → List ℕ
header f = f.version ∷ bytes_of_number 4 (count_of f) ++ (f.n ∷ f.p ∷ [])

-- What a record holds is written in its own version: the header, then n rows of n + p cells.
unfoldable pub bytes_of : Content → List ℕ
bytes_of m = header m.shape ++ joined m.shape.n (row_of m.shape m.state)
