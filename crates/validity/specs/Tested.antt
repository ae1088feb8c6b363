-- The tests of one pass are the five conditions.
use Rattle.std.specs.Prelude.{ℕ, ◌+◌, ◌-◌, ◌≤◌, ◌<◌, ◌≡◌, refl, ◌⊎◌, Bool, false, cond, ◌&&◌, ◌||◌, ltb, leb}
use native.Mathlib.Omega.{arith}
use Rattle.std.proofs.Common.{sym, ◌∙◌, inl, inr, ⊎_elim}
use Rattle.std.proofs.Math.Path.{subst}
use Rattle.std.proofs.Math.Bool.{true, not}
use Rattle.std.proofs.lemmas.Bool.{false≢true}
use Rattle.std.proofs.Math.Dec.{eqb}
use borrow.Author.Tests.{eqb-true, eqb-false, eq-eqb, ne_eqb, lt-ltb, le-ltb, leb-true, le-leb, not-true}
use Rattle.matrix.specs.Bounded.{any, all, count, least}
use Rattle.laws.specs.Tests.{way, clash, holds, fails_not, same_test, and_left, and_right, and_both, or_left, or_right, or_other}
use Rattle.laws.specs.Bounded.{all_each, each_all, any_none, none_any, least_none}
use Rattle.laws.specs.Counting.{none_count}
use Rattle.owner_table.specs.Counts.{mark_none, mark_least}
use Rattle.owner_table.specs.Followed.{followed, followed_same, longer, within}
use Rattle.owner_table.specs.Table.{reach}
use Rattle.validity.specs.Fast.{owner_step, zero_absent, plain_free, root_alone, one_each, ascends, five_hold, subject_right, plain_right, owner_mark, all_ascend, tests_pass}
use Rattle.validity.specs.Sound.{Bits, Framed, five_framed, framed_absent, framed_plain, framed_root, framed_one}

module _ (n p : ℕ) (O C Z : ℕ → ℕ → Bool) (bits : Bits O C Z) (some : 0 < n) where
  abbrev Here : Type 0
  Here = Framed n (n + p) O C Z

  -- ---- from the tests

  present : (s : ℕ) → subject_right n (n + p) O C Z s ≡ true → C s s ≡ true
      → cond (eqb s 0) (eqb (count n (λ w. O w s)) 0 && eqb (count n (λ w. C w s)) 1) (eqb (count n (λ w. O w s)) 1 && leb (count n (λ w. C w s)) 2) ≡ true
  unfolding subject_right
  present s h e = rw e at h

  absent : (s : ℕ) → subject_right n (n + p) O C Z s ≡ true → C s s ≡ false
      → (not (eqb s 0) && (all n (λ w. Z w s) && all (n + p) (λ c. Z s c))) ≡ true
  unfolding subject_right
  absent s h e = rw e at h

  unowned_zero : (c : ℕ) → plain_right n O C Z c ≡ true → any n (λ w. O w c) ≡ false → all n (λ w. Z w c) ≡ true
  unfolding plain_right
  unowned_zero c h e = rw e at h

  owned_free : (c : ℕ) → plain_right n O C Z c ≡ true → any n (λ w. O w c) ≡ true → any n (λ w. C w c) ≡ false
  unfolding plain_right
  owned_free c h e = not-true (any n (λ w. C w c)) (rw e at h)

  pub tests_framed : all n (subject_right n (n + p) O C Z) ≡ true → all p (λ i. plain_right n O C Z (n + i)) ≡ true → Here
  tests_framed a b =
      record {
        root = root;
        root_owner = eqb-true _ 0 (and_left _ _ (present 0 (sub 0 some) root));
        root_control = eqb-true _ 1 (and_right (eqb (count n (λ w. O w 0)) 0) _ (present 0 (sub 0 some) root));
        owner = λ s l ne e. eqb-true _ 1 (and_left _ _ (other_present s l ne e));
        control = λ s l ne e. leb-true _ 2 (and_right (eqb (count n (λ w. O w s)) 1) _ (other_present s l ne e));
        column = λ s w l m e. all_each n (λ w. Z w s) (and_left _ _ (and_right (not (eqb s 0)) _ (absent s (sub s l) e))) w m;
        row = λ s c l m e. all_each (n + p) (λ c. Z s c) (and_right (all n (λ w. Z w s)) _ (and_right (not (eqb s 0)) _ (absent s (sub s l) e))) c m;
        plain = λ c w g l m. free c w g l m (way (any n (λ v. O v c)));
        unowned = λ c w g l m e. all_each n (λ w. Z w c) (unowned_zero c (pln c g l) e) w m;
      }
    where
      sub : (s : ℕ) → s < n → subject_right n (n + p) O C Z s ≡ true
      sub s l = all_each n (subject_right n (n + p) O C Z) a s l

      pln : (c : ℕ) → n ≤ c → c < n + p → plain_right n O C Z c ≡ true
      pln c g l =
          let e : n + (c - n) ≡ c = omega arith in
          rw e at (all_each p (λ i. plain_right n O C Z (n + i)) b (c - n) (omega arith))

      root : C 0 0 ≡ true
      root = holds (C 0 0) (λ e. false≢true (absent 0 (sub 0 some) e))

      other_present : (s : ℕ) → s < n → (s ≡ 0 → ⊥) → C s s ≡ true → (eqb (count n (λ w. O w s)) 1 && leb (count n (λ w. C w s)) 2) ≡ true
      other_present s l ne e = rw (ne_eqb s 0 ne) at (present s (sub s l) e)

      free : (c w : ℕ) → n ≤ c → c < n + p → w < n → (any n (λ v. O v c) ≡ true) ⊎ (any n (λ v. O v c) ≡ false) → C w c ≡ false
      free c w g l m (inl e) = any_none n (λ w. C w c) w (owned_free c (pln c g l) e) m
      free c w g l m (inr e) = bits.control w c (all_each n (λ w. Z w c) (unowned_zero c (pln c g l) e) w m)

  -- ---- to the tests

  framed_subject : Here → (s : ℕ) → s < n → subject_right n (n + p) O C Z s ≡ true
  unfolding subject_right
  framed_subject f s l = go (way (C s s)) (way (eqb s 0))
    where
      root_at : s ≡ 0 → (eqb (count n (λ w. O w s)) 0 && eqb (count n (λ w. C w s)) 1) ≡ true
      root_at q =
          subst (λ (i : ℕ). (eqb (count n (λ w. O w i)) 0 && eqb (count n (λ w. C w i)) 1) ≡ true) (sym q)
          (and_both (eq-eqb _ 0 f.root_owner) (eq-eqb _ 1 f.root_control))

      go : (C s s ≡ true) ⊎ (C s s ≡ false) → (eqb s 0 ≡ true) ⊎ (eqb s 0 ≡ false) → subject_right n (n + p) O C Z s ≡ true
      go (inl e) (inl z) = rw (e, z) (root_at (eqb-true s 0 z))
      go (inl e) (inr z) = rw (e, z) (and_both (eq-eqb _ 1 (f.owner s l (eqb-false s 0 z) e)) (le-leb _ 2 (f.control s l (eqb-false s 0 z) e)))
      go (inr e) (inl z) = absurd (clash f.root (subst (λ (i : ℕ). C i i ≡ false) (eqb-true s 0 z) e))
      go (inr e) (inr z) = rw (e, z) (and_both (each_all n _ (λ w m. f.column s w l m e)) (each_all (n + p) _ (λ c m. f.row s c l m e)))

  framed_plainly : Here → (i : ℕ) → i < p → plain_right n O C Z (n + i) ≡ true
  unfolding plain_right
  framed_plainly f i l = go (way (any n (λ w. O w (n + i))))
    where
      go : (any n (λ w. O w (n + i)) ≡ true) ⊎ (any n (λ w. O w (n + i)) ≡ false) → plain_right n O C Z (n + i) ≡ true
      go (inl e) = rw e (fails_not (none_any n _ (λ w m. f.plain (n + i) w (omega arith) (omega arith) m)))
      go (inr e) = rw e (each_all n _ (λ w m. f.unowned (n + i) w (omega arith) (omega arith) m e))

  -- ---- the owners of existing subjects

  abbrev Exists : ℕ → Type 0
  Exists s = (s < n) × (C s s ≡ true)

  root_mark : Here → owner_mark n O 0 ≡ 0
  root_mark f = mark_none n (λ w. O w 0) (none_count n (λ w. O w 0) f.root_owner)

  root_step : Here → owner_step n O 0 ≡ 0
  root_step f =
      let e : least n (λ w. O w 0) ≡ n = least_none n (λ w. O w 0) (none_any n (λ w. O w 0) (none_count n (λ w. O w 0) f.root_owner)) in
      let l : ltb n n ≡ false = le-ltb n n (omega arith) in
      rw (e, l) refl

  step_least : Here → (s : ℕ) → s < n → (s ≡ 0 → ⊥) → C s s ≡ true → owner_step n O s ≡ least n (λ w. O w s)
  step_least f s l ne e = rw (lt-ltb _ n (mark_least n (λ w. O w s) (f.owner s l ne e)).1) refl

  same_owner : Here → (s : ℕ) → Exists s → owner_mark n O s ≡ owner_step n O s
  same_owner f s x =
      ⊎_elim (λ z. subst (λ (i : ℕ). owner_mark n O i ≡ owner_step n O i) (sym (eqb-true s 0 z)) (root_mark f ∙ sym (root_step f)))
      (λ z. (mark_least n (λ w. O w s) (f.owner s x.0 (eqb-false s 0 z) x.1)).0 ∙ sym (step_least f s x.0 (eqb-false s 0 z) x.1))
      (way (eqb s 0))

  owner_exists : Here → (s : ℕ) → Exists s → Exists (owner_step n O s)
  owner_exists f s x = go (way (eqb s 0))
    where
      at_root : Exists (owner_step n O 0)
      at_root = let e : owner_step n O 0 ≡ 0 = root_step f in subst (λ (i : ℕ). Exists i) (sym e) (some, f.root)

      at_owner : (s ≡ 0 → ⊥) → Exists (least n (λ w. O w s))
      at_owner ne =
          let w = mark_least n (λ w. O w s) (f.owner s x.0 ne x.1) in (
            w.1,
            holds (C (least n (λ w. O w s)) (least n (λ w. O w s)))
                (λ e. clash w.2 (bits.own (least n (λ w. O w s)) s (f.row (least n (λ w. O w s)) s w.1 (let l : s < n = x.0 in omega arith) e))),
          )

      go : (eqb s 0 ≡ true) ⊎ (eqb s 0 ≡ false) → Exists (owner_step n O s)
      go (inl z) = subst (λ (i : ℕ). Exists (owner_step n O i)) (sym (eqb-true s 0 z)) at_root
      go (inr z) = subst (λ (i : ℕ). Exists i) (sym (step_least f s x.0 (eqb-false s 0 z) x.1)) (at_owner (eqb-false s 0 z))

  same_path : Here → (j s : ℕ) → Exists s → followed (owner_mark n O) j s ≡ followed (owner_step n O) j s
  same_path f = followed_same (owner_mark n O) (owner_step n O) (λ s. (s < n) × (C s s ≡ true)) (same_owner f) (owner_exists f)

  -- an absent subject has no owner
  absent_mark : Here → (s : ℕ) → s < n → C s s ≡ false → owner_mark n O s ≡ 0
  absent_mark f s l e = mark_none n (λ w. O w s) (λ w m. bits.own w s (f.column s w l m e))

  -- the owner of a subject, or 0, is a subject
  pub mark_inside : Here → (s : ℕ) → s < n → owner_mark n O s < n
  mark_inside f s l =
      ⊎_elim (λ e. subst (λ (i : ℕ). i < n) (sym (same_owner f s (l, e))) (owner_exists f s (l, e)).0)
      (λ e. subst (λ (i : ℕ). i < n) (sym (absent_mark f s l e)) some) (way (C s s))

  framed_ascend : n ≤ reach → Here → ascends n O C ≡ true → all_ascend n O ≡ true
  unfolding followed
  framed_ascend most f h = each_all n _ (λ s l. eq-eqb _ 0 (go s l (way (C s s))))
    where
      go : (s : ℕ) → s < n → (C s s ≡ true) ⊎ (C s s ≡ false) → followed (owner_mark n O) reach s ≡ 0
      go s l (inl e) =
          let q : followed (owner_step n O) n s ≡ 0 = eqb-true _ 0 (or_other {t = not (C s s)} (all_each n (λ s. not (C s s) || eqb (followed (owner_step n O) n s) 0) h s l) (rw e refl)) in
          let t : n + (reach - n) ≡ reach = omega arith in
          rw t at (longer n (owner_mark n O) (mark_inside f) (root_mark f) n (reach - n) s (same_path f n s (l, e) ∙ q))
      go s l (inr e) = longer n (owner_mark n O) (mark_inside f) (root_mark f) 1 (reach - 1) s (absent_mark f s l e)

  ascend_framed : Here → all_ascend n O ≡ true → ascends n O C ≡ true
  ascend_framed f h = each_all n _ (λ s l. go s l (way (C s s)))
    where
      go : (s : ℕ) → s < n → (C s s ≡ true) ⊎ (C s s ≡ false) → (not (C s s) || eqb (followed (owner_step n O) n s) 0) ≡ true
      go s l (inl e) =
          or_right (not (C s s))
          (eq-eqb _ 0 (sym (same_path f n s (l, e)) ∙ within n (owner_mark n O) (mark_inside f) (root_mark f) reach s l
          (eqb-true _ 0 (all_each n (λ s. eqb (followed (owner_mark n O) reach s) 0) h s l))))
      go s l (inr e) = or_left _ (fails_not e)

  -- The tests of one pass pass just where the five conditions hold.
  pub tests_five : n ≤ reach → tests_pass n p O C Z ≡ five_hold n (n + p) O C Z
  tests_five most = same_test _ _ forth back
    where
      inside : n ≤ n + p
      inside = omega arith

      forth : tests_pass n p O C Z ≡ true → five_hold n (n + p) O C Z ≡ true
      forth h =
          let hs = and_left _ (all_ascend n O) h in
          let f : Here = tests_framed (and_left (all n (subject_right n (n + p) O C Z)) _ hs) (and_right (all n (subject_right n (n + p) O C Z)) _ hs) in
          and_both (and_both (and_both (and_both (framed_absent n (n + p) O C Z inside some f) (framed_plain n (n + p) O C Z inside some f))
          (framed_root n (n + p) O C Z inside some f)) (framed_one n (n + p) O C Z inside some f))
          (ascend_framed f (and_right (all n (subject_right n (n + p) O C Z) && all p (λ i. plain_right n O C Z (n + i))) _ h))

      back : five_hold n (n + p) O C Z ≡ true → tests_pass n p O C Z ≡ true
      back h =
          let four = and_left _ (ascends n O C) h in
          let three = and_left _ (one_each n O C) four in
          let two = and_left _ (root_alone n O C) three in
          let f : Here =
          five_framed n (n + p) O C Z inside some (and_left _ (plain_free n (n + p) C) two) (and_right (zero_absent n (n + p) O C Z) _ two)
          (and_right (zero_absent n (n + p) O C Z && plain_free n (n + p) C) _ three)
          (and_right (zero_absent n (n + p) O C Z && plain_free n (n + p) C && root_alone n O C) _ four) in
          and_both (and_both (each_all n _ (framed_subject f)) (each_all p _ (framed_plainly f)))
          (framed_ascend most f (and_right (zero_absent n (n + p) O C Z && plain_free n (n + p) C && root_alone n O C && one_each n O C) _ h))
