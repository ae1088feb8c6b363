-- Searches and counts whose first number is taken apart, and a search cut off at a lower bound.
use Rattle.std.specs.Prelude.{ℕ, zero, suc, ◌+◌, ◌≤◌, ◌<◌, ◌≡◌, refl, Bool, true, false, cond, ◌||◌, ltb, None}
use Rattle.std.proofs.Common.{arith, sym, ◌∙◌, ap, ⊎_elim, ltb-true, ltb-false}
use Rattle.matrix.specs.Bounded.{any, count, least}
use Rattle.laws.specs.Tests.{way, clash}
use Rattle.laws.specs.Bounded.{least_hit, least_none, least_first, any_none, none_any, First}
use Rattle.row_search.specs.SomeBelow.{some_below, below_some, below_none}

-- the first number fails: what is left is the search from the next one on
pub any_next : (n : ℕ) (f : ℕ → Bool) → f 0 ≡ false → any (suc n) f ≡ any n (λ j. f (suc j))
unfolding any
any_next zero f h = h
any_next (suc n) f h = ap (λ (t : Bool). t || f (suc n)) (any_next n f h)

pub least_next : (n : ℕ) (f : ℕ → Bool) → f 0 ≡ false → least (suc n) f ≡ suc (least n (λ j. f (suc j)))
unfolding any least
least_next zero f h = rw h refl
least_next (suc n) f h =
    ap (λ (t : Bool). cond t (least (suc n) f) (cond (f (suc n)) (suc n) (suc (suc n)))) (any_next n f h)
    ∙ ap (λ (k : ℕ). cond (any n (λ j. f (suc j))) k (cond (f (suc n)) (suc n) (suc (suc n)))) (least_next n f h)
    ∙ inside (any n (λ j. f (suc j))) (f (suc n)) (least n (λ j. f (suc j)))
  where
    inside : (t u : Bool) (k : ℕ) → cond t (suc k) (cond u (suc n) (suc (suc n))) ≡ suc (cond t k (cond u n (suc n)))
    inside true u k = refl
    inside false true k = refl
    inside false false k = refl

-- the first number counts apart
pub count_next : (n : ℕ) (f : ℕ → Bool) → count (suc n) f ≡ cond (f 0) 1 0 + count n (λ j. f (suc j))
unfolding count
count_next zero f = omega arith
count_next (suc n) f = let e : count (suc n) f ≡ cond (f 0) 1 0 + count n (λ j. f (suc j)) = count_next n f in omega arith

-- f below m and g below n pass the same numbers
pub record Same (m n : ℕ) (f g : ℕ → Bool) : Type 0 where
  pub within : n ≤ m
  pub below : (j : ℕ) → j < n → f j ≡ g j
  pub above : (j : ℕ) → n ≤ j → j < m → f j ≡ false

module _ {m n : ℕ} {f g : ℕ → Bool} (h : Same m n f g) where
  none_same : any m f ≡ false → any n g ≡ false
  none_same a = let w = h.within in none_any n g (λ j l. sym (h.below j l) ∙ any_none m f j a (omega arith))

  module _ (first : First m f) where
    lower : least m f < n
    lower = ⊎_elim (λ (t : ltb (least m f) n ≡ true). ltb-true (least m f) n t)
        (λ (t : ltb (least m f) n ≡ false). absurd (clash first.passes (h.above (least m f) (ltb-false (least m f) n t) first.below)))
        (way (ltb (least m f) n))

    least_lower : least n g ≡ least m f
    least_lower =
        least_hit n g (least m f) lower (none_any (least m f) g (λ j l. sym (h.below j (omega (arith, lower))) ∙ any_none (least m f) f j first.none_before l))
        (sym (h.below (least m f) lower) ∙ first.passes)

    found_same : some_below m (least m f) ≡ some_below n (least n g)
    found_same = sym (below_some first.below) ∙ below_some lower ∙ ap (some_below n) (sym least_lower)

  -- the number that is found is the same, or there is none in both
  pub some_same : some_below m (least m f) ≡ some_below n (least n g)
  some_same = ⊎_elim (λ (a : any m f ≡ true). found_same (least_first m f a)) lost (way (any m f))
    where
      lost : any m f ≡ false → some_below m (least m f) ≡ some_below n (least n g)
      lost a =
          let e : least m f ≡ m = least_none m f a in
          let k : least n g ≡ n = least_none n g (none_same a) in
          let u : None ≡ some_below m (least m f) = below_none (omega arith) in
          sym u ∙ below_none (omega arith)
