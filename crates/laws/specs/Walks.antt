-- The owner walk at one subject: it meets the wanted name, ends at U, goes up to the owner, or is lost.
use Rattle.std.specs.Prelude.{ℕ, suc, ◌+◌, ◌≡◌, Bool, true, false, eqb, ltb}
use Rattle.std.proofs.Math.Path.{refl}
use Rattle.matrix.specs.declared.Name.{Name}
use Rattle.matrix.specs.declared.Name.TheVariants.{Subject}
use Rattle.matrix.specs.declared.Walked.TheVariants.{Meets, Root, Lost}
use Rattle.matrix.specs.Names.{U, same_name}
use Rattle.matrix.specs.Owners.{owner_of, walk_from}

module _ (top : ℕ) (owns : ℕ → Name → Bool) (left s : ℕ) (o : Name) (links : ℕ) where
  pub walk_met : same_name (Subject s) o ≡ true → walk_from top owns (suc left) s o links ≡ Meets links
  unfolding walk_from
  walk_met h = rw h refl

  pub walk_root : same_name (Subject s) o ≡ false → eqb s U ≡ true → walk_from top owns (suc left) s o links ≡ Root links
  unfolding walk_from
  walk_root h u = rw (h, u) refl

  pub walk_up : same_name (Subject s) o ≡ false → eqb s U ≡ false → ltb (owner_of top owns s) top ≡ true
      → walk_from top owns (suc left) s o links ≡ walk_from top owns left (owner_of top owns s) o (links + 1)
  unfolding walk_from
  walk_up h u l = rw (h, u, l) refl

  pub walk_lost : same_name (Subject s) o ≡ false → eqb s U ≡ false → ltb (owner_of top owns s) top ≡ false
      → walk_from top owns (suc left) s o links ≡ Lost
  unfolding walk_from
  walk_lost h u l = rw (h, u, l) refl
