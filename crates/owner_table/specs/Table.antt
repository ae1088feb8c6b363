-- Tables of owners: what each entry is come to by.
use Rattle.std.specs.Prelude.{ℕ, zero, suc, ◌+◌, ◌-◌, ◌*◌, ◌^◌, ◌≤◌, ◌<◌, ◌≡◌, refl, ◌⊎◌, Bool, true, false, cond, List, eqb, ltb, length, get_or, max}
use Rattle.std.proofs.Common.{arith, add-one, sym, ◌∙◌, ap, subst, inl, inr, ⊎_elim, eqb-true, eq-eqb, ltb-true}
use Rattle.std.proofs.lemmas.Bool.{eqb-false, lt-ltb}
use Rattle.std.proofs.lemmas.Grind.{pow_more}
use Rattle.matrix.specs.Bounded.{all}
use Rattle.laws.specs.Tests.{way, same_test}
use Rattle.laws.specs.Bounded.{all_same, all_each, each_all}
use Rattle.owner_table.specs.Followed.{followed, followed_add, followed_below, longer}

-- the owners that six doublings follow
abbrev pub reach : ℕ
reach = 2 ^ 6

-- the owner of subject s
abbrev pub owner_in : List ℕ → ℕ → ℕ
owner_in marks s = get_or marks s 0

-- every owner is a subject
pub record Inside (n : ℕ) (f : ℕ → ℕ) : Type 0 where
  pub below : (s : ℕ) → s < n → f s < n

-- a table that holds for each of the n subjects the one that is come to by following f j times
pub record Follows (n : ℕ) (f : ℕ → ℕ) (j : ℕ) (l : List ℕ) : Type 0 where
  pub size : length l ≡ n
  pub value : (s : ℕ) → s < n → get_or l s 0 ≡ followed f j s

-- a table that follows t twice
pub record Doubled (t u : List ℕ) : Type 0 where
  pub size : length u ≡ length t
  pub value : (s : ℕ) → s < length t → owner_in u s ≡ owner_in t (owner_in t s)

-- the entry of U is U, and that of another subject has a lower number
unfoldable pub lower_test : List ℕ → ℕ → Bool
lower_test t s = cond (eqb s 0) (eqb (get_or t s 0) 0) (ltb (get_or t s 0) s)

-- that test, as the code makes it
pub lower_is : (t : List ℕ) (s : ℕ) → ltb (get_or t s 0) (max s 1) ≡ lower_test t s
unfolding lower_test
lower_is t s = same_test _ _ forth back
  where
    forth : ltb (get_or t s 0) (max s 1) ≡ true → cond (eqb s 0) (eqb (get_or t s 0) 0) (ltb (get_or t s 0) s) ≡ true
    forth h = let l : get_or t s 0 < max s 1 = ltb-true _ _ h in ⊎_elim (λ z. let e : s ≡ 0 = eqb-true s 0 z in rw z (eq-eqb _ 0 (omega arith))) (λ z. let e : s ≡ 0 → ⊥ = eqb-false s 0 z in rw z (lt-ltb _ _ (omega arith))) (way (eqb s 0))

    back : cond (eqb s 0) (eqb (get_or t s 0) 0) (ltb (get_or t s 0) s) ≡ true → ltb (get_or t s 0) (max s 1) ≡ true
    back h = ⊎_elim (λ z. let e : s ≡ 0 = eqb-true s 0 z in let o : get_or t s 0 ≡ 0 = eqb-true _ 0 (rw z at h) in lt-ltb _ _ (omega arith)) (λ z. let o : get_or t s 0 < s = ltb-true _ s (rw z at h) in lt-ltb _ _ (omega arith)) (way (eqb s 0))

-- a table of owners, and the table that follows it twice as far
pub follows_once : (t : List ℕ) → Follows (length t) (owner_in t) 1 t
unfolding followed
follows_once t = record { size = refl; value = λ s l. refl }

pub follows_twice : (n : ℕ) (f : ℕ → ℕ) (j : ℕ) (t u : List ℕ) → Inside n f → Follows n f j t → Doubled t u → Follows n f (2 * j) u
follows_twice n f j t u k h g =
    record {
      size = g.size ∙ h.size;
      value =
          λ s l.
          let e : j + j ≡ 2 * j = omega arith in
          g.value s (omega (arith, h.size)) ∙ ap (owner_in t) (h.value s l) ∙ h.value (followed f j s) (followed_below n f k.below j s l)
          ∙ sym (followed_add f j j s) ∙ ap (λ (i : ℕ). followed f i s) e;
    }

-- an entry of such a table is a subject
pub follows_inside : (n : ℕ) (f : ℕ → ℕ) (j : ℕ) (t : List ℕ) → Inside n f → Follows n f j t → Inside (length t) (owner_in t)
follows_inside n f j t k h =
    record { below = λ s l. let b : s < n = omega (arith, h.size) in let v : followed f j s < n = followed_below n f k.below j s b in omega (arith, h.size, h.value s b) }

-- the test of a table, of what is come to by following
pub follows_rooted : (n : ℕ) (f : ℕ → ℕ) (j : ℕ) (t : List ℕ) → Follows n f j t
    → all (length t) (λ s. eqb (owner_in t s) 0) ≡ all n (λ s. eqb (followed f j s) 0)
follows_rooted n f j t h =
    ap (λ (m : ℕ). all m (λ s. eqb (owner_in t s) 0)) h.size ∙ all_same n _ _ (λ s l. ap (λ (x : ℕ). eqb x 0) (h.value s l))

-- where all have come to U, all have after twice as many owners
pub rooted_twice : (n : ℕ) (f : ℕ → ℕ) (j : ℕ) → all n (λ s. eqb (followed f j s) 0) ≡ true → all n (λ s. eqb (followed f (j + j) s) 0) ≡ true
rooted_twice n f j h = each_all n _ (λ s l. eq-eqb _ 0 (followed_add f j j s ∙ ap (λ (x : ℕ). followed f j x) (zeros s l) ∙ zeros 0 (omega arith)))
  where
    zeros : (s : ℕ) → s < n → followed f j s ≡ 0
    zeros s l = eqb-true _ 0 (all_each n (λ s. eqb (followed f j s) 0) h s l)

-- where every owner is a subject too, all have after any more owners
pub rooted_longer : (n : ℕ) (f : ℕ → ℕ) (i j : ℕ) → Inside n f → i ≤ j → all n (λ s. eqb (followed f i s) 0) ≡ true → all n (λ s. eqb (followed f j s) 0) ≡ true
unfolding followed
rooted_longer n f i j k l h = each_all n _ (λ s b. eq-eqb _ 0 (go s b))
  where
    zeros : (s : ℕ) → s < n → followed f i s ≡ 0
    zeros s b = eqb-true _ 0 (all_each n (λ s. eqb (followed f i s) 0) h s b)

    root : 0 < n → f 0 ≡ 0
    root b =
        ap f (sym (zeros 0 b)) ∙ sym (followed_add f 1 i 0) ∙ ap (λ (x : ℕ). followed f x 0) (add-one i) ∙ zeros (f 0) (k.below 0 b)

    go : (s : ℕ) → s < n → followed f j s ≡ 0
    go s b = let e : i + (j - i) ≡ j = omega arith in rw e at (longer n f k.below (root (omega arith)) i (j - i) s (zeros s b))

-- The owners that each entry has followed after i passes: four times as many with each, by two doublings, and 64 after three.
pub passes_more : (n : ℕ) (f : ℕ → ℕ) (i : ℕ) (t u v : List ℕ) → Inside n f → Follows n f (4 ^ i) t → Doubled t u → Doubled u v → Follows n f (4 ^ (i + 1)) v
passes_more n f i t u v k h g d =
    let e : 2 * (2 * 4 ^ i) ≡ 4 ^ (i + 1) = rw pow_more (omega arith) in
    subst (λ (j : ℕ). Follows n f j v) e (follows_twice n f (2 * 4 ^ i) u v k (follows_twice n f (4 ^ i) t u k h g) d)

pub passes_few : (i : ℕ) → i ≤ 3 → 4 ^ i ≤ reach
passes_few zero h = omega arith
passes_few (suc zero) h = omega arith
passes_few (suc (suc zero)) h = omega arith
passes_few (suc (suc (suc i))) h = let z : i ≡ 0 = omega arith in rw z (omega arith)

-- where each owner has a lower number, following s owners from s comes to U
pub lower_rooted : (n : ℕ) (t : List ℕ) → n ≤ reach → all n (lower_test t) ≡ true → all n (λ s. eqb (followed (owner_in t) reach s) 0) ≡ true
unfolding lower_test followed
lower_rooted n t most h = each_all n _ (λ s l. eq-eqb _ 0 (come reach s l (omega arith)))
  where
    lower : (s : ℕ) → s < n → (eqb s 0 ≡ true) ⊎ (eqb s 0 ≡ false) → ((s ≡ 0) × (owner_in t s ≡ 0)) ⊎ (owner_in t s < s)
    lower s l (inl z) = inl (eqb-true s 0 z, eqb-true _ 0 (rw z at (all_each n (lower_test t) h s l)))
    lower s l (inr z) = inr (ltb-true _ s (rw z at (all_each n (lower_test t) h s l)))

    come : (j s : ℕ) → s < n → s ≤ j → followed (owner_in t) j s ≡ 0
    come zero s l k = omega arith
    come (suc j) s l k =
        ⊎_elim (λ e. let q : owner_in t s ≡ 0 = e.1 in come j (owner_in t s) (omega arith) (omega arith)) (λ e. come j (owner_in t s) (omega arith) (omega arith))
        (lower s l (way (eqb s 0)))
