-- Counts of the numbers below a bound that pass: none, at most one, some.
use Rattle.std.specs.Prelude.{ℕ, zero, suc, ◌+◌, ◌≤◌, ◌<◌, ◌≡◌, refl, Bool, true, false}
use Rattle.std.proofs.Common.{not-suc-le-zero, arith, sym, ◌∙◌, subst, ⊎_elim}
use Rattle.matrix.specs.Bounded.{any, count}
use Rattle.laws.specs.Tests.{way, clash, fails, or_left, or_right, or_cases}
use Rattle.laws.specs.Bounded.{below_suc, any_hit, none_any}

-- one number more: it counts where it passes
pub count_hit : (n : ℕ) (f : ℕ → Bool) → f n ≡ true → count (suc n) f ≡ count n f + 1
unfolding count
count_hit n f h = rw h refl

pub count_miss : (n : ℕ) (f : ℕ → Bool) → f n ≡ false → count (suc n) f ≡ count n f
unfolding count
count_miss n f h = let z : count n f + 0 ≡ count n f = omega arith in rw h z

-- something passes where the count is not 0, and only there
pub count_some : (n : ℕ) (f : ℕ → Bool) → 1 ≤ count n f → any n f ≡ true
unfolding any count
count_some zero f h = absurd (not-suc-le-zero h)
count_some (suc n) f h =
    ⊎_elim (λ e. or_right (any n f) e)
    (λ e. or_left (f n) (count_some n f (subst (λ (k : ℕ). 1 ≤ k) (count_miss n f e) h))) (way (f n))

pub some_count : (n : ℕ) (f : ℕ → Bool) → any n f ≡ true → 1 ≤ count n f
unfolding any count
some_count zero f h = absurd (clash h refl)
some_count (suc n) f h =
    ⊎_elim (λ a. let l : 1 ≤ count n f = some_count n f a in omega arith)
    (λ e. let q : count (suc n) f ≡ count n f + 1 = count_hit n f e in omega arith) (or_cases (any n f) (f n) h)

pub count_none : (n : ℕ) (f : ℕ → Bool) → any n f ≡ false → count n f ≡ 0
count_none n f h = let z : (1 ≤ count n f) → ⊥ = λ l. clash (count_some n f l) h in omega arith

pub none_count : (n : ℕ) (f : ℕ → Bool) → count n f ≡ 0 → (i : ℕ) → i < n → f i ≡ false
none_count n f h i l = fails (f i) (λ e. let s : 1 ≤ count n f = some_count n f (any_hit n f i l e) in omega arith)

-- where at most one passes, two that pass are the same
pub count_one : (n : ℕ) (f : ℕ → Bool) (i j : ℕ) → count n f ≤ 1 → i < n → j < n → f i ≡ true → f j ≡ true → i ≡ j
count_one zero f i j h a b p q = absurd (not-suc-le-zero a)
count_one (suc n) f i j h a b p q =
    ⊎_elim (λ l. ⊎_elim (λ m. count_one n f i j (omega (arith, count_grows)) l m p q) (λ m. absurd (later i j l m p q)) (below_suc j n b))
    (λ l. ⊎_elim (λ m. absurd (later j i m l q p)) (λ m. l ∙ sym m) (below_suc j n b)) (below_suc i n a)
  where
    count_grows : count n f ≤ count (suc n) f
    count_grows =
        ⊎_elim (λ e. let r : count (suc n) f ≡ count n f + 1 = count_hit n f e in omega arith)
        (λ e. let r : count (suc n) f ≡ count n f = count_miss n f e in omega arith) (way (f n))

    later : (k m : ℕ) → k < n → m ≡ n → f k ≡ true → f m ≡ true → ⊥
    later k m l r u v =
        let c : count (suc n) f ≡ count n f + 1 = count_hit n f (subst (λ (x : ℕ). f x ≡ true) r v) in
        let d : 1 ≤ count n f = some_count n f (any_hit n f k l u) in
        omega arith

-- and the other way round
pub one_count : (n : ℕ) (f : ℕ → Bool) → ((i j : ℕ) → i < n → j < n → f i ≡ true → f j ≡ true → i ≡ j) → count n f ≤ 1
unfolding count
one_count zero f h = omega arith
one_count (suc n) f h =
    ⊎_elim last (λ e. subst (λ (k : ℕ). k ≤ 1) (sym (count_miss n f e)) (one_count n f (λ i j a b. h i j (omega arith) (omega arith))))
    (way (f n))
  where
    last : f n ≡ true → count (suc n) f ≤ 1
    last e =
        let c : count (suc n) f ≡ count n f + 1 = count_hit n f e in
        let none : (i : ℕ) → i < n → f i ≡ true → ⊥ = λ i l g. let r : i ≡ n = h i n (omega arith) (omega arith) g e in omega arith in
        let z : count n f ≡ 0 = count_none n f (none_any n f (λ i l. fails (f i) (none i l))) in
        omega arith
