-- Laws of counts, and of the numbers that pass, merged.
use Rattle.std.specs.Prelude.{ℕ, zero, suc, ◌+◌, ◌%◌, ◌<◌, ◌≡◌, refl, ◌⊎◌, Bool, true, false, not, ◌&&◌, eqb}
use Rattle.std.proofs.Common.{not-suc-le-zero, arith, sym, ◌∙◌, ap, subst, inl, inr, ⊎_elim, eq-eqb, ne_eqb}
use Rattle.matrix.specs.Bounded.{any, count, least}
use Rattle.laws.specs.Tests.{way}
use Rattle.laws.specs.Bounded.{below_suc, any_hit, none_any, count_same}
use Rattle.laws.specs.Counting.{count_hit, count_miss, count_none, none_count}
use Rattle.lanes.specs.Lanes.{since, mark_of}

-- where one passes, the others are one fewer
pub count_besides : (n : ℕ) (f : ℕ → Bool) (s : ℕ) → s < n → f s ≡ true → count n f ≡ suc (count n (λ w. f w && not (eqb w s)))
count_besides zero f s l h = absurd (not-suc-le-zero l)
count_besides (suc n) f s l h =
    ⊎_elim (λ b. earlier b (count_besides n f s b h) (way (f n))) (λ q. here q) (below_suc s n l)
  where
    g : ℕ → Bool
    g w = f w && not (eqb w s)

    apart : (i : ℕ) → (i ≡ s → ⊥) → g i ≡ f i
    apart i ne = let e : eqb i s ≡ false = ne_eqb i s ne in rw e (both (f i))
      where
        both : (t : Bool) → (t && true) ≡ t
        both true = refl
        both false = refl

    gone : g s ≡ false
    gone = let e : eqb s s ≡ true = eq-eqb s s refl in rw (h, e) refl

    earlier : s < n → count n f ≡ suc (count n g) → (f n ≡ true) ⊎ (f n ≡ false) → count (suc n) f ≡ suc (count (suc n) g)
    earlier b ih (inl e) =
        let p : count (suc n) f ≡ count n f + 1 = count_hit n f e in
        let q : count (suc n) g ≡ count n g + 1 = count_hit n g (apart n (omega arith) ∙ e) in
        omega arith
    earlier b ih (inr e) =
        let p : count (suc n) f ≡ count n f = count_miss n f e in
        let q : count (suc n) g ≡ count n g = count_miss n g (apart n (omega arith) ∙ e) in
        omega arith

    here : s ≡ n → count (suc n) f ≡ suc (count (suc n) g)
    here q =
        let p : count (suc n) f ≡ count n f + 1 = count_hit n f (subst (λ (j : ℕ). f j ≡ true) q h) in
        let r : count (suc n) g ≡ count n g = count_miss n g (subst (λ (j : ℕ). g j ≡ false) q gone) in
        let t : count n f ≡ count n g = count_same n f g (λ i b. sym (apart i (omega arith))) in
        omega arith

-- none passes: 0
since_none : (n : ℕ) (f : ℕ → Bool) → ((i : ℕ) → i < n → f i ≡ false) → since n f ≡ 0
unfolding since
since_none zero f h = refl
since_none (suc n) f h =
    let e : since n f ≡ 0 = since_none n f (λ i l. h i (omega arith)) in
    let z : count (suc n) f ≡ 0 = count_none (suc n) f (none_any (suc n) f h) in
    rw (e, z) refl

pub mark_none : (n : ℕ) (f : ℕ → Bool) → ((i : ℕ) → i < n → f i ≡ false) → mark_of n f ≡ 0
mark_none n f h = rw (since_none n f h) refl

-- where just one passes, the numbers from it on are counted
since_least : (n : ℕ) (f : ℕ → Bool) → count n f ≡ 1 → (since n f + least n f ≡ n) × (least n f < n) × (f (least n f) ≡ true)
unfolding count since least
since_least zero f h = absurd (omega arith)
since_least (suc n) f h = go (way (f n)) (since_least n f)
  where
    Claim : ℕ → Type 0
    Claim m = (since m f + least m f ≡ m) × (least m f < m) × (f (least m f) ≡ true)

    go : (f n ≡ true) ⊎ (f n ≡ false) → (count n f ≡ 1 → Claim n) → Claim (suc n)
    go (inl e) ih =
        let z : count n f ≡ 0 = (let p : count (suc n) f ≡ count n f + 1 = count_hit n f e in omega arith) in
        let a : any n f ≡ false = none_any n f (none_count n f z) in
        let q : least (suc n) f ≡ n = rw (a, e) refl in
        let o : since n f ≡ 0 = since_none n f (none_count n f z) in
        let t : since (suc n) f ≡ 1 = ap (λ (x : ℕ). since n f + x % 2) h ∙ omega arith in
        (rw (t, q) (omega arith), rw q (omega arith), rw q e)
    go (inr e) ih =
        let z : count n f ≡ 1 = (let p : count (suc n) f ≡ count n f = count_miss n f e in omega arith) in
        let w = ih z in
        let a : any n f ≡ true = any_hit n f (least n f) w.1 w.2 in
        let q : least (suc n) f ≡ least n f = rw a refl in
        let l : least n f < n = w.1 in
        let s : since n f + least n f ≡ n = w.0 in
        let t : since (suc n) f ≡ since n f + 1 = ap (λ (x : ℕ). since n f + x % 2) h in
        (rw (t, q) (omega arith), rw q (omega arith), rw q w.2)

-- where just one passes, that one, the lowest, is marked
pub mark_least : (n : ℕ) (f : ℕ → Bool) → count n f ≡ 1 → (mark_of n f ≡ least n f) × (least n f < n) × (f (least n f) ≡ true)
mark_least n f h =
    let w = since_least n f h in
    let s : since n f + least n f ≡ n = w.0 in
    let l : least n f < n = w.1 in
    let z : eqb (since n f) 0 ≡ false = ne_eqb (since n f) 0 (λ q. omega arith) in
    (rw z (omega arith), l, w.2)
