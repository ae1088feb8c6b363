-- Tests in turn and conditions in their order: the number of the first test that is not passed is that of the first condition that holds.
use Rattle.std.specs.Prelude.{ℕ, ◌≡◌, refl, ◌≢◌, true, false, cond, List, [], ◌∷◌, ◌++◌, map, eqb}
use Rattle.std.proofs.Common.{sym, ◌∙◌, subst, inl, inr, ⊎_elim, eqb-true}
use Rattle.std.proofs.lemmas.Bool.{eqb-false}
use Rattle.matrix.specs.Tests.{Test, first_failed}
use Rattle.laws.specs.Tests.{way}
use Rattle.demands.specs.First.{Condition, First, NoneHolds, Numbered, Among}

-- a test is failed exactly where a condition of the same number holds
pub record Against (t : Test) (c : Condition) : Type 0 where
  pub number : t.number ≡ c.number
  pub some : c.number ≢ 0
  pub failed : t.passed ≡ false → c.Holds
  pub passed : t.passed ≡ true → c.Holds → ⊥

-- each test of a list is so, as long as those before it are passed
abbrev pub AllAgainst : List Test → List Condition → Type 0
AllAgainst [] [] = Unit
AllAgainst [] (c ∷ cs) = ⊥
AllAgainst (t ∷ ts) [] = ⊥
AllAgainst (t ∷ ts) (c ∷ cs) = Against t c × (t.passed ≡ true → AllAgainst ts cs)

-- a condition that does not hold comes before a list
passed_by : {c : Condition} {cs : List Condition} {m : ℕ} → (c.Holds → ⊥) → Numbered cs m → Numbered (c ∷ cs) m
passed_by not n =
    record {
      answered = (λ e. (not, n.answered.0 e), λ h. n.answered.1 h.1);
      refused = λ k some. (λ e. inr (not, (n.refused k some).0 e), λ f. ⊎_elim (λ p. absurd (not p.0)) (λ p. (n.refused k some).1 p.1) f);
    }

-- a condition that holds does
stopped_by : {c : Condition} {cs : List Condition} → c.Holds → c.number ≢ 0 → Numbered (c ∷ cs) c.number
stopped_by holds some =
    record {
      answered = (λ e. absurd (some e), λ h. absurd (h.0 holds));
      refused = λ k nonzero. (λ e. inl (holds, sym e), λ f. ⊎_elim (λ p. sym p.1) (λ p. absurd (p.0 holds)) f);
    }

pub numbered : (ts : List Test) (cs : List Condition) → AllAgainst ts cs → Numbered cs (first_failed ts)
unfolding first_failed
numbered [] [] h = record { answered = (λ e. tt, λ n. refl); refused = λ k some. (λ e. some (sym e), λ f. absurd f) }
numbered [] (c ∷ cs) h = absurd h
numbered (t ∷ ts) [] h = absurd h
numbered (t ∷ ts) (c ∷ cs) h =
    ⊎_elim (λ e. rw e (passed_by (h.0.passed e) (numbered ts cs (h.1 e))))
    (λ e. rw e (subst (Numbered (c ∷ cs)) (sym h.0.number) (stopped_by (h.0.failed e) h.0.some))) (way t.passed)

-- conditions of which none holds before a list
after_none : (cs ds : List Condition) {m : ℕ} → NoneHolds cs → Numbered ds m → Numbered (cs ++ ds) m
after_none [] ds h n = n
after_none (c ∷ cs) ds h n = passed_by h.0 (after_none cs ds h.1 n)

-- conditions of which the first that holds has the number m
first_numbered : (cs ds : List Condition) {m : ℕ} → m ≢ 0 → First cs m → Numbered (cs ++ ds) m
first_numbered [] ds some f = absurd f
first_numbered (c ∷ cs) ds some (inl p) = subst (Numbered (c ∷ (cs ++ ds))) (sym p.1) (stopped_by p.0 (λ e. some (p.1 ∙ e)))
first_numbered (c ∷ cs) ds some (inr p) = passed_by p.0 (first_numbered cs ds some p.1)

-- where the conditions of one list come before those of another, and the second number is asked for where the first is 0
pub numbered_then : (cs ds : List Condition) {m n : ℕ} → Numbered cs m → (m ≡ 0 → Numbered ds n) → Numbered (cs ++ ds) (cond (eqb m 0) n m)
numbered_then cs ds {m} a b =
    ⊎_elim (λ t. let e : m ≡ 0 = eqb-true m 0 t in rw t (after_none cs ds (a.answered.0 e) (b e)))
    (λ t. let some : m ≢ 0 = eqb-false m 0 t in rw t (first_numbered cs ds some ((a.refused m some).0 refl))) (way (eqb m 0))

-- the number is 0 or one of the conditions'
first_among : (cs : List Condition) (m : ℕ) → First cs m → Among m (map (λ c. c.number) cs)
first_among [] m f = f
first_among (c ∷ cs) m (inl p) = inl p.1
first_among (c ∷ cs) m (inr p) = inr (first_among cs m p.1)

pub numbered_among : (cs : List Condition) {m : ℕ} → Numbered cs m → Among m (0 ∷ map (λ c. c.number) cs)
numbered_among cs {m} n =
    ⊎_elim (λ t. inl (eqb-true m 0 t)) (λ t. let some : m ≢ 0 = eqb-false m 0 t in inr (first_among cs m ((n.refused m some).0 refl))) (way (eqb m 0))

-- no condition of two lists holds: none of either does
pub none_before : (cs ds : List Condition) → NoneHolds (cs ++ ds) → NoneHolds cs
none_before [] ds h = tt
none_before (c ∷ cs) ds h = (h.0, none_before cs ds h.1)

pub none_after : (cs ds : List Condition) → NoneHolds (cs ++ ds) → NoneHolds ds
none_after [] ds h = h
none_after (c ∷ cs) ds h = none_after cs ds h.1

pub none_both : (cs ds : List Condition) → NoneHolds cs → NoneHolds ds → NoneHolds (cs ++ ds)
none_both [] ds h g = g
none_both (c ∷ cs) ds h g = (h.0, none_both cs ds h.1 g)

-- one of two lists is one of a longer list
pub among_outside : (m : ℕ) (xs ys zs : List ℕ) → Among m (xs ++ zs) → Among m (xs ++ (ys ++ zs))
among_outside m [] [] zs h = h
among_outside m [] (y ∷ ys) zs h = inr (among_outside m [] ys zs h)
among_outside m (x ∷ xs) ys zs (inl e) = inl e
among_outside m (x ∷ xs) ys zs (inr h) = inr (among_outside m xs ys zs h)

pub among_inside : (m : ℕ) (xs ys zs : List ℕ) → Among m ys → Among m (xs ++ (ys ++ zs))
among_inside m [] [] zs h = elim h [ ]
among_inside m [] (y ∷ ys) zs (inl e) = inl e
among_inside m [] (y ∷ ys) zs (inr h) = inr (among_inside m [] ys zs h)
among_inside m (x ∷ xs) ys zs h = inr (among_inside m xs ys zs h)
