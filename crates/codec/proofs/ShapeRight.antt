-- The shapes that records have: a known version, numbers of names in range, and the width and first place of the version.
use Rattle.std.specs.Prelude.{ℕ, ◌+◌, ◌*◌, ◌≤◌, ◌≡◌, refl, true, false, eqb}
use Rattle.std.proofs.Common.{mul-le-mul, arith, ◌∙◌, inl, inr, ⊎_elim}
use Rattle.matrix.specs.declared.Shape.{Shape}
use Rattle.matrix.specs.Shape.{known_version, most_subjects, most_plain, width_of, shape_in, bits_of, columns, size_of}
use Rattle.laws.specs.Tests.{way}
use Rattle.codec.specs.ShapeRight.{ShapeRight, TwoOrFour, most_bits, most_bytes, most_first, most_width, versions}

pub widths : (v : ℕ) → TwoOrFour (width_of v)
widths v = ⊎_elim (λ (e : eqb v 1 ≡ true). inl (rw e refl)) (λ (e : eqb v 1 ≡ false). inr (rw e refl)) (way (eqb v 1))

-- in every version that is read, a cell has twice as many bytes as the version's number
pub width_double : (v : ℕ) → known_version v ≡ true → 2 * v ≡ width_of v
width_double v h = ⊎_elim (λ (e : v ≡ 1). rw e refl) (λ (e : v ≡ 2). rw e refl) (versions v h)

-- the shape of a version that is read, with n and p in range
pub right_in : (v n p : ℕ) → known_version v ≡ true → 1 ≤ n → n ≤ most_subjects → p ≤ most_plain → ShapeRight (shape_in v n p)
right_in v n p known low high plain =
    record {
      version = known;
      low = low;
      high = high;
      plain = plain;
      width = refl;
      first = refl;
      width_least = ⊎_elim (λ (e : width_of v ≡ 2). omega arith) (λ (e : width_of v ≡ 4). omega arith) (widths v);
      width_most = ⊎_elim (λ (e : width_of v ≡ 2). omega arith) (λ (e : width_of v ≡ 4). omega arith) (widths v);
    }

module _ (f : Shape) (g : ShapeRight f) where
  pub two_or_four : TwoOrFour f.width
  two_or_four = ⊎_elim (λ (e : width_of f.version ≡ 2). inl (g.width ∙ e)) (λ (e : width_of f.version ≡ 4). inr (g.width ∙ e)) (widths f.version)

  pub width_some : 1 ≤ f.width
  width_some = omega (arith, g.width_least)

  pub bits_most : bits_of f ≤ most_bits
  bits_most = omega (arith, g.width_most)

  pub size_most : size_of f ≤ most_bytes
  size_most = most f.first (f.width * (f.n * columns f)) (omega arith) (mul-le-mul g.width_most (mul-le-mul g.high columns_most))
    where
      columns_most : f.n + f.p ≤ most_subjects + most_plain
      columns_most = omega arith

      most : (a x : ℕ) → a ≤ most_first → x ≤ most_width * (most_subjects * (most_subjects + most_plain)) → a + x ≤ most_bytes
      most a x h l = omega arith
