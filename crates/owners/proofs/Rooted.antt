-- Subjects from which following owners leads to U; and that this is so of every existing subject exactly where no subject is above itself,
-- so that none is met again on the way up.
use Prim.Native.Nat.{ℕ, zero, suc}
use Rattle.std.specs.Prelude.{◌≡◌, ◌≢◌, true, eqb}
use Rattle.std.proofs.Common.{sym, ◌∙◌}
use Rattle.std.proofs.Math.Path.{subst}
use Rattle.std.proofs.Math.Logic.{⊎_elim}
use borrow.Author.Tests.{eqb-true, eqb-false}
use Rattle.matrix.specs.declared.Name.TheVariants.{Subject}
use Rattle.matrix.specs.Names.{U}
use Rattle.matrix.specs.State.{State, exists}
use Rattle.matrix.specs.Owners.{Above, owner, higher}
use Rattle.matrix.specs.Record.{climb}
use Rattle.laws.specs.Tests.{way}
use Rattle.owners.specs.Framed.{Framed, owner_in, owned_exists}
use Rattle.owners.specs.Climb.{climb_in}
use Rattle.owners.proofs.Climb.{climb_up, climb_ends, owner_of, owner_of_exists}
use Rattle.owners.proofs.Walk.{root_top}
use Rattle.owners.specs.Rooted.{Rooted, above_trans, root, under}

module _ {S : State} (F : Framed S) where
  -- a subject that is met again has an owner that is met again, and so on up to U, which has no owner
  owner_again : (s w : ℕ) → S.owns w (Subject s) ≡ true → Above S.owns (Subject s) s → Above S.owns (Subject w) w
  owner_again s w e (owner h) = subst (λ (v : ℕ). Above S.owns (Subject v) v) (F.one_owner s s w h e) (owner h)
  owner_again s w e (higher {w = v} h a) =
      above_trans (subst (λ (u : ℕ). Above S.owns (Subject u) s) (F.one_owner s v w h e) a) (owner e)

  rooted_once : {s : ℕ} → Rooted S.owns s → Above S.owns (Subject s) s → ⊥
  rooted_once root a = root_top F U a
  rooted_once (under {s = s} {w = w} e r) a = rooted_once r (owner_again s w e a)

  -- who has an owner exists
  above_exists : (s v : ℕ) → Above S.owns (Subject s) v → exists S s ≡ true
  above_exists s v (owner h) = owned_exists F v s h
  above_exists s v (higher {w = w} h a) = owned_exists F w s h

  -- Every existing subject is rooted: none is met again.
  pub rooted_no_cycle : ((s : ℕ) → exists S s ≡ true → Rooted S.owns s) → (s : ℕ) → Above S.owns (Subject s) s → ⊥
  rooted_no_cycle h s a = rooted_once (h s (above_exists s s a)) a

  -- where U is come to, link by link, the subject is rooted
  pub climb_rooted : (k s : ℕ) → exists S s ≡ true → climb_in S k s ≡ U → Rooted S.owns s
  unfolding climb
  climb_rooted zero s e c = subst (λ (v : ℕ). Rooted S.owns v) (sym c) root
  climb_rooted (suc k) s e c =
      ⊎_elim (λ u. subst (λ (v : ℕ). Rooted S.owns v) (sym (eqb-true s U u)) root)
      (λ u. let n : s ≢ U = eqb-false s U u in
      under (owner_of F s n e) (climb_rooted k (owner_in S s) (owner_of_exists F s n e) (sym (climb_up F k s n e) ∙ c)))
      (way (eqb s U))

  -- None is met again: every existing subject is rooted.
  pub no_cycle_rooted : ((s : ℕ) → Above S.owns (Subject s) s → ⊥) → (s : ℕ) → exists S s ≡ true → Rooted S.owns s
  no_cycle_rooted h s e = let c = climb_ends F h s e in climb_rooted c.0 s e c.2
