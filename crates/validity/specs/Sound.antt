-- The five conditions and the tests of one pass say the same of a matrix: both say what Sound says.
use Rattle.std.specs.Prelude.{ℕ, suc, ◌≤◌, ◌<◌, ◌≡◌, refl, ◌⊎◌, Bool, true, false, not, ◌&&◌, ◌||◌, eqb, ltb, leb}
use Rattle.std.proofs.Common.{arith, ◌∙◌, ap, inl, inr, ⊎_elim, eqb-true, eq-eqb, ne_eqb, ltb-true, ltb-false, lt-ltb, le-ltb, leb-true, le-leb}
use Rattle.std.proofs.lemmas.Bool.{eqb-false, not-true}
use Rattle.matrix.specs.Bounded.{any, all, count}
use Rattle.laws.specs.Tests.{way, clash, fails, holds, and_left, and_right, and_both, fails_not, or_cases, or_left, or_right, or_other}
use Rattle.laws.specs.Bounded.{all_each, each_all, none_any}
use Rattle.laws.specs.Counting.{count_none, none_count}
use Rattle.owner_table.specs.Counts.{count_besides}
use Rattle.validity.specs.Fast.{column_exists, zero_absent, plain_free, root_alone, one_each}

-- a zero cell has no bit
pub record Bits (O C Z : ℕ → ℕ → Bool) : Type 0 where
  pub own : (w c : ℕ) → Z w c ≡ true → O w c ≡ false
  pub control : (w c : ℕ) → Z w c ≡ true → C w c ≡ false

-- all conditions but the last, taken apart
pub record Framed (n k : ℕ) (O C Z : ℕ → ℕ → Bool) : Type 0 where
  pub root : C 0 0 ≡ true
  pub root_owner : count n (λ w. O w 0) ≡ 0
  pub root_control : count n (λ w. C w 0) ≡ 1
  pub owner : (s : ℕ) → s < n → (s ≡ 0 → ⊥) → C s s ≡ true → count n (λ w. O w s) ≡ 1
  pub control : (s : ℕ) → s < n → (s ≡ 0 → ⊥) → C s s ≡ true → count n (λ w. C w s) ≤ 2
  pub column : (s w : ℕ) → s < n → w < n → C s s ≡ false → Z w s ≡ true
  pub row : (s c : ℕ) → s < n → c < k → C s s ≡ false → Z s c ≡ true
  pub plain : (c w : ℕ) → n ≤ c → c < k → w < n → C w c ≡ false
  pub unowned : (c w : ℕ) → n ≤ c → c < k → w < n → any n (λ v. O v c) ≡ false → Z w c ≡ true

-- a cell that is zero, or whose row and column exist, where one of them does not
left_over : (z a e : Bool) → (z || a && e) ≡ true → (a ≡ false) ⊎ (e ≡ false) → z ≡ true
left_over z a e h (inl q) = ⊎_elim (λ t. t) (λ t. absurd (clash (and_left a e t) q)) (or_cases z (a && e) h)
left_over z a e h (inr q) = ⊎_elim (λ t. t) (λ t. absurd (clash (and_right a e t) q)) (or_cases z (a && e) h)

module _ (n k : ℕ) (O C Z : ℕ → ℕ → Bool) (inside : n ≤ k) (some : 0 < n) where
  -- ---- from the five conditions

  absent_at : zero_absent n k O C Z ≡ true → (w c : ℕ) → w < n → c < k → (Z w c || C w w && column_exists n O C c) ≡ true
  absent_at h w c l m = all_each k (λ c. Z w c || C w w && column_exists n O C c) (all_each n (λ w. all k (λ c. Z w c || C w w && column_exists n O C c)) h w l) c m

  plain_at : plain_free n k C ≡ true → (w c : ℕ) → w < n → c < k → (ltb c n || not (C w c)) ≡ true
  plain_at h w c l m = all_each k (λ c. ltb c n || not (C w c)) (all_each n (λ w. all k (λ c. ltb c n || not (C w c))) h w l) c m

  root_at : root_alone n O C ≡ true → (w : ℕ) → w < n → (not (O w 0) && (eqb w 0 || not (C w 0))) ≡ true
  root_at h w l = all_each n (λ w. not (O w 0) && (eqb w 0 || not (C w 0))) (and_right (C 0 0) _ h) w l

  one_at : one_each n O C ≡ true → (s : ℕ) → s < n → (s ≡ 0 → ⊥) → C s s ≡ true
      → (eqb (count n (λ w. O w s)) 1 && leb (count n (λ w. C w s && not (eqb w s))) 1) ≡ true
  one_at h s l ne e =
      or_other {t = eqb s 0 || not (C s s)}
      (all_each n (λ s. eqb s 0 || not (C s s) || eqb (count n (λ w. O w s)) 1 && leb (count n (λ w. C w s && not (eqb w s))) 1) h s l)
      (rw (ne_eqb s 0 ne, e) refl)

  pub five_framed : zero_absent n k O C Z ≡ true → plain_free n k C ≡ true → root_alone n O C ≡ true → one_each n O C ≡ true → Framed n k O C Z
  five_framed a p r o =
      record {
        root = root;
        root_owner = count_none n (λ w. O w 0) (none_any n _ (λ w l. not-true (O w 0) (and_left (not (O w 0)) _ (root_at r w l))));
        root_control = count_besides n (λ w. C w 0) 0 some root ∙ ap suc (count_none n (λ w. C w 0 && not (eqb w 0)) (none_any n _ alone));
        owner = λ s l ne e. eqb-true (count n (λ w. O w s)) 1 (and_left _ _ (one_at o s l ne e));
        control = λ s l ne e. rw (count_besides n (λ w. C w s) s l e) (second s (leb-true _ 1 (and_right (eqb (count n (λ w. O w s)) 1) _ (one_at o s l ne e))));
        column = λ s w l m e. left_over (Z w s) (C w w) _ (absent_at a w s m (omega arith)) (inr (rw (lt-ltb s n l) e));
        row = λ s c l m e. left_over (Z s c) (C s s) _ (absent_at a s c l m) (inl e);
        plain = λ c w g l m. not-true (C w c) (or_other (plain_at p w c m l) (le-ltb c n g));
        unowned = λ c w g l m e. left_over (Z w c) (C w w) _ (absent_at a w c m l) (inr (rw (le-ltb c n g) e));
      }
    where
      root : C 0 0 ≡ true
      root = and_left (C 0 0) _ r

      alone : (w : ℕ) → w < n → (C w 0 && not (eqb w 0)) ≡ false
      alone w l =
          fails (C w 0 && not (eqb w 0))
          (λ t. clash (and_left (C w 0) _ t)
          (not-true (C w 0) (or_other (and_right (not (O w 0)) _ (root_at r w l)) (not-true (eqb w 0) (and_right (C w 0) _ t)))))

      second : (s : ℕ) → count n (λ w. C w s && not (eqb w s)) ≤ 1 → suc (count n (λ w. C w s && not (eqb w s))) ≤ 2
      second s h = omega arith

  -- ---- to the five conditions

  pub framed_absent : Framed n k O C Z → zero_absent n k O C Z ≡ true
  framed_absent f = each_all n _ (λ w l. each_all k _ (λ c m. cell w c l m (way (Z w c))))
    where
      column : (w c : ℕ) → w < n → c < k → Z w c ≡ false → (ltb c n ≡ true) ⊎ (ltb c n ≡ false) → column_exists n O C c ≡ true
      column w c l m z (inl q) = rw q (holds (C c c) (λ e. clash (f.column c w (ltb-true c n q) l e) z))
      column w c l m z (inr q) = rw q (holds (any n (λ w. O w c)) (λ e. clash (f.unowned c w (ltb-false c n q) m l e) z))

      cell : (w c : ℕ) → w < n → c < k → (Z w c ≡ true) ⊎ (Z w c ≡ false) → (Z w c || C w w && column_exists n O C c) ≡ true
      cell w c l m (inl z) = or_left _ z
      cell w c l m (inr z) = or_right (Z w c) (and_both (holds (C w w) (λ e. clash (f.row w c l m e) z)) (column w c l m z (way (ltb c n))))

  pub framed_plain : Framed n k O C Z → plain_free n k C ≡ true
  framed_plain f = each_all n _ (λ w l. each_all k _ (λ c m. cell w c l m (way (ltb c n))))
    where
      cell : (w c : ℕ) → w < n → c < k → (ltb c n ≡ true) ⊎ (ltb c n ≡ false) → (ltb c n || not (C w c)) ≡ true
      cell w c l m (inl q) = or_left _ q
      cell w c l m (inr q) = or_right (ltb c n) (fails_not (f.plain c w (ltb-false c n q) m l))

  pub framed_root : Framed n k O C Z → root_alone n O C ≡ true
  framed_root f =
      and_both f.root (each_all n _ (λ w l. and_both (fails_not (none_count n (λ w. O w 0) f.root_owner w l)) (alone w l (way (eqb w 0)))))
    where
      besides : count n (λ w. C w 0 && not (eqb w 0)) ≡ 0
      besides = let q : count n (λ w. C w 0) ≡ suc (count n (λ w. C w 0 && not (eqb w 0))) = count_besides n (λ w. C w 0) 0 some f.root in let r : count n (λ w. C w 0) ≡ 1 = f.root_control in omega arith

      alone : (w : ℕ) → w < n → (eqb w 0 ≡ true) ⊎ (eqb w 0 ≡ false) → (eqb w 0 || not (C w 0)) ≡ true
      alone w l (inl q) = or_left _ q
      alone w l (inr q) =
          or_right (eqb w 0)
          (fails_not (fails (C w 0) (λ t. clash (and_both t (fails_not q)) (none_count n (λ w. C w 0 && not (eqb w 0)) besides w l))))

  pub framed_one : Framed n k O C Z → one_each n O C ≡ true
  framed_one f = each_all n _ (λ s l. each s l (way (eqb s 0)) (way (C s s)))
    where
      second : (s : ℕ) → s < n → (s ≡ 0 → ⊥) → C s s ≡ true → count n (λ w. C w s && not (eqb w s)) ≤ 1
      second s l ne e =
          let q : count n (λ w. C w s) ≡ suc (count n (λ w. C w s && not (eqb w s))) = count_besides n (λ w. C w s) s l e in
          let r : count n (λ w. C w s) ≤ 2 = f.control s l ne e in
          omega arith

      each : (s : ℕ) → s < n → (eqb s 0 ≡ true) ⊎ (eqb s 0 ≡ false) → (C s s ≡ true) ⊎ (C s s ≡ false)
          → (eqb s 0 || not (C s s) || eqb (count n (λ w. O w s)) 1 && leb (count n (λ w. C w s && not (eqb w s))) 1) ≡ true
      each s l (inl q) e = or_left _ (or_left _ q)
      each s l (inr q) (inr e) = or_left _ (or_right (eqb s 0) (fails_not e))
      each s l (inr q) (inl e) =
          let ne : s ≡ 0 → ⊥ = eqb-false s 0 q in
          or_right (eqb s 0 || not (C s s)) (and_both (eq-eqb (count n (λ w. O w s)) 1 (f.owner s l ne e)) (le-leb _ 1 (second s l ne e)))
