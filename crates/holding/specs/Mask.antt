-- The mask of a right (Manual 1.3): those bits of a cell that make the right held, as one number. It is computed from the
-- code alone, with no case for a kind of right. What is claimed of it stands below; `MaskHolds.antt` proves it.
use Rattle.std.specs.Prelude.{ℕ, ◌*◌, ◌^◌, ◌<◌, ◌≡◌, Bool, false, not, ◌||◌, List, [], ◌∷◌, eqb, ltb}
use Rattle.std.specs.Int.Bits.{bit_and, bit_or}
use Rattle.matrix.specs.declared.Right.{Right}
use Rattle.matrix.specs.declared.Shape.{Shape}
use Rattle.matrix.specs.Names.{name_of}
use Rattle.matrix.specs.Numbers.{truth}
use Rattle.matrix.specs.Rights.{code_of, right_of, held_by}
use Rattle.matrix.specs.State.{State, held}
use Rattle.matrix.specs.Bytes.{from_bits}
use Rattle.matrix.specs.Shape.{bits_of}
use Rattle.matrix.specs.Reading.{cell_of}

-- 1 for the code of a basic right, 0 for those of own and control
abbrev pub basic_digit : ℕ → ℕ
basic_digit c = truth (ltb 1 c)

-- the code of the starred form of a basic right, which is the odd one of its two codes; own and control have no other form
abbrev pub starred_code : ℕ → ℕ
starred_code c = bit_or c (basic_digit c)

-- the bit of the right's code, that of its starred form, and for a basic right that of own, which is bit 0 and so the digit itself
unfoldable pub mask_of : ℕ → ℕ
mask_of c = bit_or (bit_or (2 ^ c) (2 ^ starred_code c)) (basic_digit c)

-- j is the code of one of these rights
abbrev pub code_among : ℕ → List Right → Bool
code_among j [] = false
code_among j (y ∷ ys) = eqb j (code_of y) || code_among j ys

-- two numbers share a bit
abbrev pub shares : ℕ → ℕ → Bool
shares u v = not (eqb (bit_and u v) 0)

-- Over every width of a cell, w bytes: the mask of each of its codes is the number of as many bits in which bit j is set exactly where j is the code
-- of a right that makes the code's right held.
abbrev pub MaskIs : Type 0
MaskIs = (w c : ℕ) → c < 8 * w → mask_of c ≡ from_bits (8 * w) (λ j. code_among j (held_by (right_of c)))

-- Over every shape, and so every width: a right is held exactly where the cell and the right's mask share a bit.
abbrev pub HeldShares : Type 0
HeldShares = (f : Shape) (S : State) (row column right : ℕ) → right < bits_of f → held S (right_of right) row (name_of f.n column) ≡ shares (cell_of f S row column) (mask_of right)
