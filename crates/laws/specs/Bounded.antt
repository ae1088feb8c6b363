-- Laws of the tests and searches over the numbers below a bound.
use Rattle.std.specs.Prelude.{ℕ, zero, suc, ◌<◌, ◌≡◌, refl, ◌⊎◌, Bool, true, false, eqb}
use Rattle.std.proofs.Common.{not-suc-le-zero, arith, sym, subst, inl, inr, ⊎_elim, eqb-true}
use Rattle.std.proofs.lemmas.Bool.{false≢true, eqb-false}
use Rattle.matrix.specs.Bounded.{any, all, count, least}
use Rattle.laws.specs.Tests.{way, clash, fails, and_left, and_right, and_both, or_cases, or_left, or_right, or_none_left, or_none_right}

-- a number below suc n is below n or is n
pub below_suc : (i n : ℕ) → i < suc n → (i < n) ⊎ (i ≡ n)
below_suc i n h = ⊎_elim (λ e. inr (eqb-true i n e)) (λ e. inl (strictly (eqb-false i n e))) (way (eqb i n))
  where
    strictly : (i ≡ n → ⊥) → i < n
    strictly ne = omega arith

pub any_hit : (n : ℕ) (f : ℕ → Bool) (i : ℕ) → i < n → f i ≡ true → any n f ≡ true
unfolding any
any_hit zero f i h e = absurd (not-suc-le-zero h)
any_hit (suc n) f i h e =
    ⊎_elim (λ l. or_left (f n) (any_hit n f i l e)) (λ q. or_right (any n f) (subst (λ (j : ℕ). f j ≡ true) q e)) (below_suc i n h)

pub any_found : (n : ℕ) (f : ℕ → Bool) → any n f ≡ true → (i : ℕ) × (i < n) × (f i ≡ true)
unfolding any
any_found zero f h = absurd (false≢true h)
any_found (suc n) f h = ⊎_elim (λ a. widen (any_found n f a)) (λ e. (n, omega arith, e)) (or_cases (any n f) (f n) h)
  where
    widen : (i : ℕ) × (i < n) × (f i ≡ true) → (i : ℕ) × (i < suc n) × (f i ≡ true)
    widen w = let h₁ : w.0 < n = w.1 in (w.0, omega arith, w.2)

pub any_none : (n : ℕ) (f : ℕ → Bool) (i : ℕ) → any n f ≡ false → i < n → f i ≡ false
any_none n f i h l = fails (f i) (λ e. clash (any_hit n f i l e) h)

pub none_any : (n : ℕ) (f : ℕ → Bool) → ((i : ℕ) → i < n → f i ≡ false) → any n f ≡ false
none_any n f h = fails (any n f) (λ e. let w = any_found n f e in clash w.2 (h w.0 w.1))

-- the steps of a search that goes upward
pub any_miss : (n : ℕ) (f : ℕ → Bool) → any n f ≡ false → f n ≡ false → any (suc n) f ≡ false
unfolding any
any_miss n f h e = rw (h, e) refl

pub any_same : (n : ℕ) (f g : ℕ → Bool) → ((i : ℕ) → i < n → f i ≡ g i) → any n f ≡ any n g
unfolding any
any_same zero f g h = refl
any_same (suc n) f g h = rw (any_same n f g (λ i l. h i (omega arith)), h n (omega arith)) refl

pub all_each : (n : ℕ) (f : ℕ → Bool) → all n f ≡ true → (i : ℕ) → i < n → f i ≡ true
unfolding all
all_each zero f h i l = absurd (not-suc-le-zero l)
all_each (suc n) f h i l =
    ⊎_elim (λ b. all_each n f (and_left (all n f) (f n) h) i b) (λ q. subst (λ (j : ℕ). f j ≡ true) (sym q) (and_right (all n f) (f n) h)) (below_suc i n l)

pub each_all : (n : ℕ) (f : ℕ → Bool) → ((i : ℕ) → i < n → f i ≡ true) → all n f ≡ true
unfolding all
each_all zero f h = refl
each_all (suc n) f h = and_both (each_all n f (λ i l. h i (omega arith))) (h n (omega arith))

pub all_fails : (n : ℕ) (f : ℕ → Bool) (i : ℕ) → i < n → f i ≡ false → all n f ≡ false
all_fails n f i l e = fails (all n f) (λ h. clash (all_each n f h i l) e)

pub all_same : (n : ℕ) (f g : ℕ → Bool) → ((i : ℕ) → i < n → f i ≡ g i) → all n f ≡ all n g
unfolding all
all_same zero f g h = refl
all_same (suc n) f g h = rw (all_same n f g (λ i l. h i (omega arith)), h n (omega arith)) refl

pub count_same : (n : ℕ) (f g : ℕ → Bool) → ((i : ℕ) → i < n → f i ≡ g i) → count n f ≡ count n g
unfolding count
count_same zero f g h = refl
count_same (suc n) f g h = rw (count_same n f g (λ i l. h i (omega arith)), h n (omega arith)) refl

-- nothing passes: the search ends at the bound
pub least_none : (n : ℕ) (f : ℕ → Bool) → any n f ≡ false → least n f ≡ n
unfolding any least
least_none zero f h = refl
least_none (suc n) f h = rw (or_none_left (any n f) (f n) h, or_none_right (any n f) (f n) h) refl

-- the first that passes is found
pub least_hit : (n : ℕ) (f : ℕ → Bool) (i : ℕ) → i < n → any i f ≡ false → f i ≡ true → least n f ≡ i
unfolding any least
least_hit zero f i l h e = absurd (not-suc-le-zero l)
least_hit (suc n) f i l h e =
    ⊎_elim (λ b. let a : any n f ≡ true = any_hit n f i b e in rw a (least_hit n f i b h e))
    (λ q. let a : any n f ≡ false = rw q at h in let g : f n ≡ true = rw q at e in rw (a, g) (sym q)) (below_suc i n l)

-- where some number passes there is a first one, and the search finds it
pub record First (n : ℕ) (f : ℕ → Bool) : Type 0 where
  pub below : least n f < n
  pub passes : f (least n f) ≡ true
  pub none_before : any (least n f) f ≡ false

pub least_first : (n : ℕ) (f : ℕ → Bool) → any n f ≡ true → First n f
unfolding any least
least_first zero f h = absurd (false≢true h)
least_first (suc n) f h = ⊎_elim (λ a. earlier a (least_first n f a)) (λ a. last a) (way (any n f))
  where
    earlier : any n f ≡ true → First n f → First (suc n) f
    earlier a w =
        let e : least (suc n) f ≡ least n f = rw a refl in
        let b : least n f < n = w.below in
        record { below = rw e (omega arith); passes = rw e w.passes; none_before = rw e w.none_before }

    last : any n f ≡ false → First (suc n) f
    last a =
        let p : f n ≡ true = rw a at h in
        let e : least (suc n) f ≡ n = rw (a, p) refl in
        record { below = rw e (omega arith); passes = rw e p; none_before = rw e a }

-- what is found below the bound passes
pub least_passes : (n : ℕ) (f : ℕ → Bool) → least n f < n → f (least n f) ≡ true
least_passes n f l = ⊎_elim (λ a. (least_first n f a).passes) (λ a. let e : least n f ≡ n = least_none n f a in absurd (omega arith)) (way (any n f))

pub least_found : (n : ℕ) (f : ℕ → Bool) (i : ℕ) → i < n → f i ≡ true → least n f < n
least_found n f i l e = (least_first n f (any_hit n f i l e)).below

pub least_same : (n : ℕ) (f g : ℕ → Bool) → ((i : ℕ) → i < n → f i ≡ g i) → least n f ≡ least n g
unfolding least
least_same zero f g h = refl
least_same (suc n) f g h = rw (any_same n f g (λ i l. h i (omega arith)), least_same n f g (λ i l. h i (omega arith)), h n (omega arith)) refl
