-- Bytes of the right form for their shape, as facts: the tests 1 to 4 are passed. And states within the names of a shape.
use Rattle.std.specs.Prelude.{ℕ, ◌≤◌, ◌<◌, ◌≡◌, true, List, length, get_or}
use Rattle.matrix.specs.declared.Name.{Name}
use Rattle.matrix.specs.declared.Right.{Right}
use Rattle.matrix.specs.declared.Shape.{Shape}
use Rattle.matrix.specs.Names.{named}
use Rattle.matrix.specs.Rights.{code_of}
use Rattle.matrix.specs.State.{State, has}
use Rattle.matrix.specs.Bytes.{number_at}
use Rattle.matrix.specs.Shape.{shape_of, known_version, most_subjects, most_plain, count_of, size_of, bits_of}

pub record Shaped (b : List ℕ) : Type 0 where
  pub version : known_version (shape_of b).version ≡ true
  pub low : 1 ≤ (shape_of b).n
  pub high : (shape_of b).n ≤ most_subjects
  pub plain : (shape_of b).p ≤ most_plain
  pub count : number_at b 1 4 ≡ count_of (shape_of b)
  pub size : length b ≡ size_of (shape_of b)

-- every element is a byte, as those of a slice of bytes are
pub record Octets (b : List ℕ) : Type 0 where
  pub octet : (j : ℕ) → get_or b j 0 < 256

-- A state within the record's names and rights: `top` is n, and only bits of the record's rows, columns and rights are set.
pub record Within (f : Shape) (S : State) : Type 0 where
  pub top : S.top ≡ f.n
  pub row : (y : Right) (w : ℕ) (x : Name) → has S y w x ≡ true → w < f.n
  pub column : (y : Right) (w : ℕ) (x : Name) → has S y w x ≡ true → named f.n f.p x ≡ true
  pub right : (y : Right) (w : ℕ) (x : Name) → has S y w x ≡ true → code_of y < bits_of f
