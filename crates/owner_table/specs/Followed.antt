-- A function followed a number of times, and the bound on how often it is followed until it comes to 0.
use Prim.Native.Nat.{ℕ, zero, suc, ◌+◌, ◌≤◌, ◌<◌}
use Rattle.std.proofs.Common.{not-suc-le-zero, arith, ◌∙◌, subst, eqb-true, eq-eqb}
use Rattle.std.specs.Prelude.{◌≡◌, ◌⊎◌, Bool, true, false, not, ◌&&◌, eqb}
use Rattle.std.proofs.Math.Path.{refl, ap}
use Rattle.std.proofs.Math.Logic.{inl, inr, ⊎_elim}
use Rattle.std.proofs.lemmas.Bool.{false≢true, not-true}
use Rattle.matrix.specs.Bounded.{any, count}
use Rattle.laws.specs.Tests.{way, clash, holds, fails_not, and_left, and_right, and_both}
use Rattle.laws.specs.Bounded.{below_suc, any_found, any_none}
use Rattle.laws.specs.Counting.{count_hit, count_miss}
use Rattle.lanes.specs.LaneLaws.{count_le}

-- f applied j times
unfoldable pub followed : (ℕ → ℕ) → ℕ → ℕ → ℕ
followed f zero s = s
followed f (suc j) s = followed f j (f s)

followed_at : (f : ℕ → ℕ) (i j s : ℕ) → i ≡ j → followed f i s ≡ followed f j s
followed_at f i j s e = ap (λ (k : ℕ). followed f k s) e

pub followed_add : (f : ℕ → ℕ) (i j s : ℕ) → followed f (j + i) s ≡ followed f i (followed f j s)
unfolding followed
followed_add f i zero s = followed_at f (0 + i) i s (omega arith)
followed_add f i (suc j) s = followed_at f (suc j + i) (suc (j + i)) s (omega arith) ∙ followed_add f i j (f s)

pub followed_below : (n : ℕ) (f : ℕ → ℕ) → ((s : ℕ) → s < n → f s < n) → (j s : ℕ) → s < n → followed f j s < n
unfolding followed
followed_below n f h zero s l = l
followed_below n f h (suc j) s l = followed_below n f h j (f s) (h s l)

-- what holds of a number and is kept by f lets one function be followed for the other
pub followed_same : (f g : ℕ → ℕ) (P : ℕ → Type 0) → ((s : ℕ) → P s → f s ≡ g s) → ((s : ℕ) → P s → P (g s)) → (j s : ℕ) → P s
    → followed f j s ≡ followed g j s
unfolding followed
followed_same f g P e k zero s p = refl
followed_same f g P e k (suc j) s p = ap (λ (x : ℕ). followed f j x) (e s p) ∙ followed_same f g P e k j (g s) (k s p)

-- more that pass, and more by at least one
more_le : (n : ℕ) (f g : ℕ → Bool) → ((i : ℕ) → i < n → f i ≡ true → g i ≡ true) → count n f ≤ count n g
unfolding count
more_le zero f g h = omega arith
more_le (suc n) f g h = go (more_le n f g (λ i l e. h i (omega arith) e)) (way (f n)) (way (g n))
  where
    go : count n f ≤ count n g → (f n ≡ true) ⊎ (f n ≡ false) → (g n ≡ true) ⊎ (g n ≡ false) → count (suc n) f ≤ count (suc n) g
    go ih (inl a) (inl b) = rw (a, b) (omega arith)
    go ih (inl a) (inr b) = absurd (clash (h n (omega arith) a) b)
    go ih (inr a) (inl b) = rw (a, b) (omega arith)
    go ih (inr a) (inr b) = rw (a, b) (omega arith)

more_lt : (n : ℕ) (f g : ℕ → Bool) → ((i : ℕ) → i < n → f i ≡ true → g i ≡ true) → (i : ℕ) → i < n → f i ≡ false → g i ≡ true
    → count n f < count n g
more_lt zero f g h i l a b = absurd (not-suc-le-zero l)
more_lt (suc n) f g h i l a b =
    ⊎_elim (λ k. earlier (more_lt n f g (λ j m e. h j (omega arith) e) i k a b) (way (f n)) (way (g n))) here (below_suc i n l)
  where
    earlier : count n f < count n g → (f n ≡ true) ⊎ (f n ≡ false) → (g n ≡ true) ⊎ (g n ≡ false) → count (suc n) f < count (suc n) g
    earlier ih (inl p) (inl q) = rw (count_hit n f p, count_hit n g q) (omega arith)
    earlier ih (inl p) (inr q) = absurd (clash (h n (omega arith) p) q)
    earlier ih (inr p) (inl q) = rw (count_miss n f p, count_hit n g q) (omega arith)
    earlier ih (inr p) (inr q) = rw (count_miss n f p, count_miss n g q) (omega arith)

    here : i ≡ n → count (suc n) f < count (suc n) g
    here q =
        let p : count n f ≤ count n g = more_le n f g (λ j m e. h j (omega arith) e) in
        rw (count_miss n f (subst (λ (j : ℕ). f j ≡ false) q a), count_hit n g (subst (λ (j : ℕ). g j ≡ true) q b)) (omega arith)

-- Of n numbers that f keeps below n, with f 0 = 0: whatever comes to 0 at all does so within n times. After each time more come to
-- 0, until no more do.
module _ (n : ℕ) (f : ℕ → ℕ) (keeps : (s : ℕ) → s < n → f s < n) (zeroed : f 0 ≡ 0) where
  abbrev there : ℕ → ℕ → Bool
  there j s = eqb (followed f j s) 0

  -- no more come to 0 after j times
  abbrev Settled : ℕ → Type 0
  Settled j = (s : ℕ) → s < n → followed f (suc j) s ≡ 0 → followed f j s ≡ 0

  pub stays : (j : ℕ) → followed f j 0 ≡ 0
  unfolding followed
  stays zero = refl
  stays (suc j) = ap (λ (x : ℕ). followed f j x) zeroed ∙ stays j

  pub longer : (j i s : ℕ) → followed f j s ≡ 0 → followed f (j + i) s ≡ 0
  longer j i s e = followed_add f i j s ∙ ap (λ (x : ℕ). followed f i x) e ∙ stays i

  one_longer : (j s : ℕ) → followed f j s ≡ 0 → followed f (suc j) s ≡ 0
  one_longer j s e = followed_at f (suc j) (j + 1) s (omega arith) ∙ longer j 1 s e

  settled_all : (j i : ℕ) → Settled j → (s : ℕ) → s < n → followed f (j + i) s ≡ 0 → followed f j s ≡ 0
  unfolding followed
  settled_all j zero h s l e = followed_at f j (j + 0) s (omega arith) ∙ e
  settled_all j (suc i) h s l e = h s l (settled_all j i h (f s) (keeps s l) (followed_at f (suc (j + i)) (j + suc i) s (omega arith) ∙ e))

  settled_next : (j : ℕ) → Settled j → Settled (suc j)
  settled_next j h s l e = one_longer j s (settled_all j 2 h s l (followed_at f (j + 2) (suc (suc j)) s (omega arith) ∙ e))

  -- some number comes to 0 with the next time
  abbrev fresh : ℕ → ℕ → Bool
  fresh j s = there (suc j) s && not (there j s)

  grows : (j s : ℕ) → s < n → fresh j s ≡ true → count n (there j) < count n (there (suc j))
  grows j s l e =
      more_lt n (there j) (there (suc j)) (λ i m t. eq-eqb (followed f (suc j) i) 0 (one_longer j i (eqb-true (followed f j i) 0 t))) s l
      (not-true (there j s) (and_right (there (suc j) s) (not (there j s)) e)) (and_left (there (suc j) s) (not (there j s)) e)

  settles : (j : ℕ) → any n (fresh j) ≡ false → Settled j
  settles j h s l e = eqb-true (followed f j s) 0 (holds (there j s) (λ t. clash (and_both (eq-eqb (followed f (suc j) s) 0 e) (fails_not t)) (any_none n (fresh j) s h l)))

  -- after j times no more come to 0, or at least j + 1 have
  progress : 0 < n → (j : ℕ) → Settled j ⊎ (j < count n (there j))
  unfolding followed
  progress pos zero = let h : count n (λ s. false) < count n (there 0) = more_lt n (λ s. false) (there 0) (λ i l e. absurd (false≢true e)) 0 pos refl refl in inr (omega arith)
  progress pos (suc j) = ⊎_elim (λ h. inl (settled_next j h)) (λ c. next c (way (any n (fresh j)))) (progress pos j)
    where
      next : j < count n (there j) → (any n (fresh j) ≡ true) ⊎ (any n (fresh j) ≡ false) → Settled (suc j) ⊎ (suc j < count n (there (suc j)))
      next c (inl a) = let w = any_found n (fresh j) a in let g : count n (there j) < count n (there (suc j)) = grows j w.0 w.1 w.2 in inr (omega arith)
      next c (inr a) = inl (settled_next j (settles j a))

  settled : 0 < n → Settled n
  settled pos = ⊎_elim (λ h. h) (λ c. let le : count n (there n) ≤ n = count_le n (there n) in absurd (omega arith)) (progress pos n)

  -- whatever comes to 0 does so within n times
  pub within : (j s : ℕ) → s < n → followed f j s ≡ 0 → followed f n s ≡ 0
  within j s l e = settled_all n j (settled (omega arith)) s l (followed_at f (n + j) (j + n) s (omega arith) ∙ longer j n s e)
