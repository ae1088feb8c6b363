-- Big-endian numbers and bits.
use Rattle.std.specs.Prelude.{ℕ, zero, suc, ◌+◌, ◌*◌, ◌/◌, ◌%◌, ◌^◌, Bool, cond, List, [], ◌∷◌, ◌++◌, eqb, get_or, set}

-- the number in the w bytes from `at` on, the first byte highest
unfoldable pub number_at : List ℕ → ℕ → ℕ → ℕ
number_at b at zero = 0
number_at b at (suc w) = number_at b at w * 256 + get_or b (at + w) 0

-- the list with the w bytes from `at` on holding the number v
unfoldable pub set_number : List ℕ → ℕ → ℕ → ℕ → List ℕ
set_number b at zero v = b
set_number b at (suc w) v = set (set_number b at w (v / 256)) (at + w) (v % 256)

-- the w bytes of the number v
unfoldable pub bytes_of_number : ℕ → ℕ → List ℕ
bytes_of_number zero v = []
bytes_of_number (suc w) v = bytes_of_number w (v / 256) ++ (v % 256 ∷ [])

-- bit j of v is set, counted from 0 for the lowest
unfoldable pub bit : ℕ → ℕ → Bool
bit j v = eqb (v / 2 ^ j % 2) 1

-- the number of m bits whose bit j is set where f passes j
unfoldable pub from_bits : ℕ → (ℕ → Bool) → ℕ
from_bits zero f = 0
from_bits (suc j) f = from_bits j f + cond (f j) (2 ^ j) 0

-- the parts f 0 to f (m - 1), one after another
unfoldable pub joined : ℕ → (ℕ → List ℕ) → List ℕ
joined zero f = []
joined (suc m) f = joined m f ++ f m
