-- What lies below the answer of a search.
use Rattle.std.specs.Prelude.{ℕ, ◌≤◌, ◌<◌, ◌≡◌, Bool, false}
use Rattle.std.proofs.Common.{arith, sym, subst, ⊎_elim}
use Rattle.matrix.specs.Bounded.{any, least}
use Rattle.laws.specs.Tests.{way}
use Rattle.laws.specs.Bounded.{any_none, none_any, least_none, least_first}

-- a search finds nothing below its answer
pub least_before : (n : ℕ) (f : ℕ → Bool) → any (least n f) f ≡ false
least_before n f =
    ⊎_elim (λ a. (least_first n f a).none_before) (λ a. subst (λ (m : ℕ). any m f ≡ false) (sym (least_none n f a)) a) (way (any n f))

-- its answer is at most its bound
pub least_most : (n : ℕ) (f : ℕ → Bool) → least n f ≤ n
least_most n f =
    ⊎_elim (λ a. let l : least n f < n = (least_first n f a).below in omega arith) (λ a. omega (arith, least_none n f a)) (way (any n f))

-- where nothing passes below a number, nothing does below a lower one
pub none_lower : {n m : ℕ} (f : ℕ → Bool) → n ≤ m → any m f ≡ false → any n f ≡ false
none_lower {n} {m} f h a = none_any n f (λ j l. any_none m f j a (omega arith))
