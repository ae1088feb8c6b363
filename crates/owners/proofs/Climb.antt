-- Following owners upward, link by link.
use Prim.Native.Nat.{ℕ, zero, suc, ◌+◌, ◌-◌, ◌≤◌, ◌<◌}
use Rattle.std.proofs.Common.{arith, sym, ◌∙◌, ap, subst}
use Rattle.std.specs.Prelude.{◌≡◌, ◌≢◌, true, eqb}
use Rattle.std.proofs.Math.Path.{refl}
use Rattle.std.proofs.Math.Logic.{⊎_elim}
use borrow.Author.Tests.{eqb-true, eqb-false}
use Rattle.matrix.specs.declared.Name.TheVariants.{Subject}
use Rattle.matrix.specs.Names.{U}
use Rattle.matrix.specs.State.{State, exists}
use Rattle.matrix.specs.Owners.{Above, owner, higher}
use Rattle.matrix.specs.Record.{climb}
use Rattle.laws.specs.Tests.{way, holds}
use Rattle.owners.specs.Pigeonhole.{pigeonhole}
use Rattle.owners.specs.Framed.{Framed, owner_in, found_owns, owner_exists, owner_below, root_unowned, owner_owns}
use Rattle.owners.specs.Climb.{climb_add, climb_in, climb_owned, climb_stays}

module _ {S : State} (F : Framed S) where
  -- an existing subject other than U has an owner, which the search finds
  pub owner_of : (s : ℕ) → s ≢ U → exists S s ≡ true → S.owns (owner_in S s) (Subject s) ≡ true
  owner_of s n e = let w = F.owned s n e in owner_owns F w.0 s w.1

  pub owner_of_below : (s : ℕ) → s ≢ U → exists S s ≡ true → owner_in S s < S.top
  owner_of_below s n e = owner_below F (owner_in S s) (Subject s) (owner_of s n e)

  pub owner_of_exists : (s : ℕ) → s ≢ U → exists S s ≡ true → exists S (owner_in S s) ≡ true
  owner_of_exists s n e = owner_exists F (owner_in S s) (Subject s) (owner_of s n e)

  -- U stays where it is
  pub climb_root : (j : ℕ) → climb_in S j U ≡ U
  unfolding climb
  climb_root zero = refl
  climb_root (suc j) = climb_stays S j U (λ l. root_unowned F (owner_in S U) (found_owns S U l)) ∙ climb_root j

  -- any other existing subject goes up one link
  pub climb_up : (j s : ℕ) → s ≢ U → exists S s ≡ true → climb_in S (suc j) s ≡ climb_in S j (owner_in S s)
  climb_up j s n e = climb_owned S j s (owner_of_below s n e)

  -- existing subjects only are met on the way
  pub climb_exists : (j s : ℕ) → exists S s ≡ true → exists S (climb_in S j s) ≡ true
  unfolding climb
  climb_exists zero s e = e
  climb_exists (suc j) s e =
      ⊎_elim (λ u. rw (eqb-true s U u, climb_root (suc j)) F.root)
      (λ u. let n : s ≢ U = eqb-false s U u in rw (climb_up j s n e) (climb_exists j (owner_in S s) (owner_of_exists s n e))) (way (eqb s U))

  -- what is met on the way from a subject other than U is above it
  pub climb_above : (j s : ℕ) → s ≢ U → exists S s ≡ true → Above S.owns (Subject s) (climb_in S (suc j) s)
  unfolding climb
  climb_above zero s n e = rw (climb_up zero s n e) (owner (owner_of s n e))
  climb_above (suc j) s n e =
      rw (climb_up (suc j) s n e)
      (⊎_elim (λ u. at_root (eqb-true (owner_in S s) U u))
      (λ u. higher (owner_of s n e) (climb_above j (owner_in S s) (eqb-false (owner_in S s) U u) (owner_of_exists s n e))) (way (eqb (owner_in S s) U)))
    where
      at_root : owner_in S s ≡ U → Above S.owns (Subject s) (climb_in S (suc j) (owner_in S s))
      at_root r = rw (r, climb_root (suc j)) (owner (subst (λ (w : ℕ). S.owns w (Subject s) ≡ true) r (owner_of s n e)))

  -- where no subject is met again, U is met in less than `top` links
  pub climb_ends : ((s : ℕ) → Above S.owns (Subject s) s → ⊥) → (s : ℕ) → exists S s ≡ true → (k : ℕ) × (k < S.top) × (climb_in S k s ≡ U)
  climb_ends h s e = again (pigeonhole S.top (λ j. climb_in S j s) (λ j l. F.bound (climb_in S j s) (climb_exists j s e)))
    where
      -- a subject other than U that is come to twice would be above itself
      apart : (i k : ℕ) → climb_in S i s ≡ climb_in S (suc k + i) s → climb_in S i s ≢ U → ⊥
      apart i k q n =
          h (climb_in S i s)
          (subst (λ (v : ℕ). Above S.owns (Subject (climb_in S i s)) v) (sym (q ∙ climb_add S i (suc k) s))
          (climb_above k (climb_in S i s) n (climb_exists i s e)))

      again : (i : ℕ) × (j : ℕ) × (i < j) × (j ≤ S.top) × (climb_in S i s ≡ climb_in S j s) → (k : ℕ) × (k < S.top) × (climb_in S k s ≡ U)
      again w =
          let b : w.0 < w.1 = w.2 in
          let l : w.1 ≤ S.top = w.3 in
          let d : w.1 ≡ suc (w.1 - suc w.0) + w.0 = omega arith in
          let q : climb_in S w.0 s ≡ climb_in S (suc (w.1 - suc w.0) + w.0) s = w.4 ∙ ap (λ (j : ℕ). climb_in S j s) d in
          let u = holds (eqb (climb_in S w.0 s) U) (λ f. apart w.0 (w.1 - suc w.0) q (eqb-false (climb_in S w.0 s) U f)) in
          (w.0, omega arith, eqb-true (climb_in S w.0 s) U u)
