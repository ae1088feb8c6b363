-- Members of a list of numbers; and lists without repetition, which are no longer than a bound that all members are below.
use Rattle.std.specs.Prelude.{ℕ, zero, suc, ◌≤◌, ◌<◌, ◌≡◌, ◌≢◌, ◌⊎◌, true, false, List, [], ◌∷◌, eqb, ltb, length, get_or}
use Rattle.std.proofs.Common.{not-suc-le-zero, arith, sym, subst, inl, inr, ⊎_elim, eqb-true, ltb-true, ltb-false}
use Rattle.std.proofs.lemmas.Bool.{false≢true}
use Rattle.laws.specs.Tests.{way, clash, fails, or_cases, or_left, or_right}
use Rattle.laws.specs.Same.{eqb_same}
use Rattle.owners.specs.Pigeonhole.{pigeonhole}
use Rattle.route.specs.Parts.{among}

pub among_here : (w : ℕ) (ws : List ℕ) → among w (w ∷ ws) ≡ true
unfolding among
among_here w ws = or_left (among w ws) (eqb_same w)

pub among_later : (u w : ℕ) (ws : List ℕ) → among u ws ≡ true → among u (w ∷ ws) ≡ true
unfolding among
among_later u w ws h = or_right (eqb u w) h

pub among_cases : (u w : ℕ) (ws : List ℕ) → among u (w ∷ ws) ≡ true → (u ≡ w) ⊎ (among u ws ≡ true)
unfolding among
among_cases u w ws h = ⊎_elim (λ e. inl (eqb-true u w e)) (λ a. inr a) (or_cases (eqb u w) (among u ws) h)

pub among_none : (u : ℕ) → among u [] ≡ true → ⊥
unfolding among
among_none u h = false≢true h

-- what is not among the members is neither the first nor among the others
pub among_not_here : (u w : ℕ) (ws : List ℕ) → among u (w ∷ ws) ≡ false → w ≢ u
among_not_here u w ws h e = clash (subst (λ (x : ℕ). among x (w ∷ ws) ≡ true) e (among_here w ws)) h

pub among_not_later : (u w : ℕ) (ws : List ℕ) → among u (w ∷ ws) ≡ false → among u ws ≡ false
among_not_later u w ws h = fails (among u ws) (λ m. clash (among_later u w ws m) h)

-- no number stands in the list twice
abbrev pub Distinct : List ℕ → Type 0
Distinct [] = Unit
Distinct (w ∷ ws) = (among w ws ≡ false) × Distinct ws

-- the number at a place of the list is a member, and two places of a list without repetition have different numbers
among_at : (ws : List ℕ) (j : ℕ) → j < length ws → among (get_or ws j 0) ws ≡ true
among_at [] j l = absurd (not-suc-le-zero l)
among_at (w ∷ ws) zero l = among_here w ws
among_at (w ∷ ws) (suc j) l = among_later (get_or ws j 0) w ws (among_at ws j (omega arith))

distinct_at : (ws : List ℕ) (i j : ℕ) → Distinct ws → i < j → j < length ws → get_or ws i 0 ≡ get_or ws j 0 → ⊥
distinct_at [] i j d b l e = not-suc-le-zero l
distinct_at (w ∷ ws) i zero d b l e = not-suc-le-zero b
distinct_at (w ∷ ws) zero (suc j) d b l e =
    clash (subst (λ (u : ℕ). among u ws ≡ true) (sym e) (among_at ws j (omega arith))) d.0
distinct_at (w ∷ ws) (suc i) (suc j) d b l e = distinct_at ws i j d.1 (omega arith) (omega arith) e

pub distinct_few : (m : ℕ) (ws : List ℕ) → Distinct ws → ((u : ℕ) → among u ws ≡ true → u < m) → length ws ≤ m
distinct_few m ws d below =
    ⊎_elim (λ e. absurd (more (ltb-true m (length ws) e))) (λ e. ltb-false m (length ws) e) (way (ltb m (length ws)))
  where
    more : m < length ws → ⊥
    more l =
        let w = pigeonhole m (λ j. get_or ws j 0) (λ j h. below (get_or ws j 0) (among_at ws j (omega arith))) in
        let b : w.0 < w.1 = w.2 in
        let h : w.1 ≤ m = w.3 in
        distinct_at ws w.0 w.1 d b (omega arith) w.4
