-- The pigeonhole principle: of m + 1 numbers below m two are equal.
use Rattle.std.specs.Prelude.{ℕ, zero, suc, ◌≤◌, ◌<◌, ◌≡◌, refl, true, false, cond, eqb}
use Rattle.std.proofs.Common.{not-suc-le-zero, arith, sym, ◌∙◌, ⊎_elim, eqb-true}
use Rattle.std.proofs.lemmas.Bool.{eqb-false}
use Rattle.matrix.specs.Bounded.{any}
use Rattle.laws.specs.Tests.{way}
use Rattle.laws.specs.Bounded.{any_found, any_none}

-- x, but v where x is m
lower : ℕ → ℕ → ℕ → ℕ
lower m v x = cond (eqb x m) v x

lower_hit : (m v x : ℕ) → eqb x m ≡ true → lower m v x ≡ v
unfolding lower
lower_hit m v x e = rw e refl

lower_miss : (m v x : ℕ) → eqb x m ≡ false → lower m v x ≡ x
unfolding lower
lower_miss m v x e = rw e refl

lower_below : (m v x : ℕ) → v < suc m → x < suc m → (x ≡ v → ⊥) → lower m v x < m
lower_below m v x hv hx ne =
    ⊎_elim (λ e. rw (lower_hit m v x e) (hit (eqb-true x m e))) (λ e. rw (lower_miss m v x e) (miss (eqb-false x m e))) (way (eqb x m))
  where
    hit : x ≡ m → v < m
    hit q = omega arith

    miss : (x ≡ m → ⊥) → x < m
    miss n = omega arith

-- where neither is v, what is equal after the replacement was equal before
lower_same : (m v x y : ℕ) → (x ≡ v → ⊥) → (y ≡ v → ⊥) → lower m v x ≡ lower m v y → x ≡ y
lower_same m v x y nx ny h =
    ⊎_elim
    (λ a. ⊎_elim (λ b. eqb-true x m a ∙ sym (eqb-true y m b))
    (λ b. absurd (ny (sym (lower_miss m v y b) ∙ sym h ∙ lower_hit m v x a))) (way (eqb y m)))
    (λ a. ⊎_elim (λ b. absurd (nx (sym (lower_miss m v x a) ∙ h ∙ lower_hit m v y b)))
    (λ b. sym (lower_miss m v x a) ∙ h ∙ lower_miss m v y b) (way (eqb y m)))
    (way (eqb x m))

-- Two of the numbers f 0 to f m are equal, where all are below m.
pub pigeonhole : (m : ℕ) (f : ℕ → ℕ) → ((j : ℕ) → j ≤ m → f j < m) → (i : ℕ) × (j : ℕ) × (i < j) × (j ≤ m) × (f i ≡ f j)
pigeonhole zero f h = absurd (not-suc-le-zero (h 0 (omega arith)))
pigeonhole (suc m) f h =
    ⊎_elim earlier
    (λ a. others (other a)
    (pigeonhole m lowered (λ j l. lower_below m last (f j) (h (suc m) (omega arith)) (h j (omega arith)) (other a j l))))
    (way (any (suc m) (λ j. eqb (f j) last)))
  where
    last : ℕ
    last = f (suc m)

    lowered : ℕ → ℕ
    lowered j = lower m last (f j)

    -- the last number is met before
    earlier : any (suc m) (λ j. eqb (f j) last) ≡ true → (i : ℕ) × (j : ℕ) × (i < j) × (j ≤ suc m) × (f i ≡ f j)
    earlier a =
        let w = any_found (suc m) (λ j. eqb (f j) last) a in
        (w.0, suc m, w.1, omega arith, eqb-true (f w.0) last w.2)

    -- or each of the others differs from it
    other : any (suc m) (λ j. eqb (f j) last) ≡ false → (j : ℕ) → j ≤ m → f j ≡ last → ⊥
    other a j l = eqb-false (f j) last (any_none (suc m) (λ k. eqb (f k) last) j a (omega arith))

    others : ((j : ℕ) → j ≤ m → f j ≡ last → ⊥) → (i : ℕ) × (j : ℕ) × (i < j) × (j ≤ m) × (lowered i ≡ lowered j) →
        (i : ℕ) × (j : ℕ) × (i < j) × (j ≤ suc m) × (f i ≡ f j)
    others ne w =
        let b : w.0 < w.1 = w.2 in
        let l : w.1 ≤ m = w.3 in
        (w.0, w.1, b, omega arith, lower_same m last (f w.0) (f w.1) (ne w.0 (omega arith)) (ne w.1 l) w.4)
