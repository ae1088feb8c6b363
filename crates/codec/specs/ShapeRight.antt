-- The shapes that records have: a known version, numbers of names in range, and the width and first place of the version.
use Rattle.std.specs.Prelude.{ℕ, ◌+◌, ◌*◌, ◌≤◌, ◌≡◌, ◌⊎◌, true, false, eqb}
use Rattle.std.proofs.Common.{inl, inr, ⊎_elim, eqb-true}
use Rattle.matrix.specs.declared.Shape.{Shape}
use Rattle.matrix.specs.Shape.{known_version, most_subjects, most_plain, width_of, first_of}
use Rattle.laws.specs.Tests.{way}

-- a version that is read, and the bytes of its cells, which no other place knows
pub versions : (v : ℕ) → known_version v ≡ true → (v ≡ 1) ⊎ (v ≡ 2)
versions v h = ⊎_elim (λ (e : eqb v 1 ≡ true). inl (eqb-true v 1 e)) (λ (e : eqb v 1 ≡ false). inr (eqb-true v 2 (rw e at h))) (way (eqb v 1))

abbrev pub TwoOrFour : ℕ → Type 0
TwoOrFour w = (w ≡ 2) ⊎ (w ≡ 4)

-- bounds that hold in every version: the bytes and bits of a cell, the place of the first cell, and so the bytes of a record
abbrev pub most_width : ℕ
most_width = 4

abbrev pub most_bits : ℕ
most_bits = 8 * most_width

abbrev pub most_first : ℕ
most_first = 16

abbrev pub most_bytes : ℕ
most_bytes = most_first + most_width * (most_subjects * (most_subjects + most_plain))

-- the last two fields follow from `width`
pub record ShapeRight (f : Shape) : Type 0 where
  pub version : known_version f.version ≡ true
  pub low : 1 ≤ f.n
  pub high : f.n ≤ most_subjects
  pub plain : f.p ≤ most_plain
  pub width : f.width ≡ width_of f.version
  pub first : f.first ≡ first_of f.version
  pub width_least : 2 ≤ f.width
  pub width_most : f.width ≤ most_width
