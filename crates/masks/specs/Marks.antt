-- What the masks say: bit j is subject j.
use Rattle.std.specs.Prelude.{ℕ, ◌≡◌, not, ◌&&◌, ◌||◌, List, eqb, ltb}
use Rattle.matrix.specs.Bytes.{bit}
use Rattle.matrix.specs.State.{exists}
use Rattle.matrix.specs.Reading.{state_of}

-- the bits of a mask
abbrev pub mask_bits : ℕ
mask_bits = 64

-- m marks the existing subjects of a record of n subject names
pub record MarksOf (b : List ℕ) (n m : ℕ) : Type 0 where
  pub marks : (j : ℕ) → bit j m ≡ (ltb j n && exists (state_of b) j)

-- r marks the members of a set that a trust mask leaves out
pub record LeftOut (set trust r : ℕ) : Type 0 where
  pub marks : (j : ℕ) → bit j r ≡ (bit j set && not (bit j trust))

-- r marks the members of a set, and s
pub record Added (set s r : ℕ) : Type 0 where
  pub marks : (j : ℕ) → bit j r ≡ (bit j set || eqb j s)

-- r marks the subjects below n that are not members of a set
pub record Outside (set n r : ℕ) : Type 0 where
  pub marks : (j : ℕ) → bit j r ≡ (ltb j n && not (bit j set))
