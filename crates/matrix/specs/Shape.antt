-- The record's layout (Manual 2.1): the version, L, n and p in the first 7 bytes, then the cells, row after row. What the version and the bytes 5
-- and 6 fix is a Shape, which the source declares: version, n and p, the bytes of a cell (`width`), and the place of the first cell (`first`).
-- A version differs from another in the bytes of its cells alone, and with them in the number of its basic rights.
use Rattle.std.specs.Prelude.{ℕ, ◌+◌, ◌-◌, ◌*◌, Bool, cond, ◌&&◌, ◌||◌, List, eqb, leb, length, get_or}
use Rattle.matrix.specs.declared.Shape.{Shape}
use Rattle.matrix.specs.Bytes.{number_at}

-- the versions that are read; refusal 2 for any other
abbrev pub known_version : ℕ → Bool
known_version v = eqb v 1 || eqb v 2

-- The limits of records: the most subject names and the most plain names. Refusal 3, and so each call's answer, has them as an argument, since
-- what is promised of a change of the limits compares the answers under the old ones and the new (Manual 2.3).
pub record Limits : Type 0 where
  pub subjects : ℕ
  pub plain : ℕ

-- the limits that hold
abbrev pub most_subjects : ℕ
most_subjects = 40

abbrev pub most_plain : ℕ
most_plain = 120

abbrev pub limits : Limits
limits = record { subjects = most_subjects; plain = most_plain }

-- the bytes of the header: version, L, n and p
abbrev pub header_bytes : ℕ
header_bytes = 7

-- the bytes of a cell, 2 in version 1 and 4 in version 2, and the place of the first cell
abbrev pub width_of : ℕ → ℕ
width_of v = cond (eqb v 1) 2 4

abbrev pub first_of : ℕ → ℕ
first_of v = header_bytes

-- the shape of a version with n subject names and p plain names, and the one that a record's bytes say
abbrev pub shape_in : ℕ → ℕ → ℕ → Shape
shape_in v n p = record { version = v; n = n; p = p; width = width_of v; first = first_of v }

unfoldable pub shape_of : List ℕ → Shape
shape_of b = shape_in (get_or b 0 0) (get_or b 5 0) (get_or b 6 0)

-- a cell's bits, and the number of basic rights that they have room for: own, control and two for each basic right. So version 1 has 16 right
-- codes and 7 basic rights, version 2 has 32 and 15.
abbrev pub bits_of : Shape → ℕ
bits_of f = 8 * f.width

abbrev pub basics_of : Shape → ℕ
basics_of f = 4 * f.width - 1

abbrev pub columns : Shape → ℕ
columns f = f.n + f.p

-- the place of the cell of row r and column c, and the bytes of the whole record
abbrev pub cell_place : Shape → ℕ → ℕ → ℕ
cell_place f r c = f.first + f.width * (r * columns f + c)

abbrev pub size_of : Shape → ℕ
size_of f = f.first + f.width * (f.n * columns f)

-- the count L that a record of this shape has
abbrev pub count_of : Shape → ℕ
count_of f = size_of f - 5

-- n and p are within limits; refusal 3 where this fails
abbrev pub in_range : Limits → Shape → Bool
in_range most f = leb 1 f.n && leb f.n most.subjects && leb f.p most.plain

-- L and the length are those of the shape; refusal 4 where this fails
abbrev pub sized : List ℕ → Bool
sized b = eqb (number_at b 1 4) (count_of (shape_of b)) && eqb (length b) (size_of (shape_of b))
