-- The owner walk. In a valid state it is never lost, it meets exactly the subject that it starts at and those above, and it follows
-- fewer than `top` links: at most n - 1 on a record, where `top` is n.
use Prim.Native.Nat.{ℕ, zero, suc, ◌+◌, ◌<◌}
use Rattle.std.proofs.Common.{not-suc-le-zero, sym, ◌∙◌, subst, inl, inr}
use native.Mathlib.Omega.{arith}
use Rattle.std.specs.Prelude.{◌≡◌, ◌⊎◌, ◌≢◌, true, false, eqb, ltb}
use Rattle.std.proofs.Math.Path.{refl, ap}
use Rattle.std.proofs.Math.Logic.{⊎_elim}
use borrow.Author.Tests.{eqb-true, eqb-false, eq-eqb, lt-ltb, ltb-true}
use Rattle.matrix.specs.declared.Name.{Name}
use Rattle.matrix.specs.declared.Name.TheVariants.{Subject}
use Rattle.matrix.specs.declared.Walked.TheVariants.{Meets, Root, Lost}
use Rattle.matrix.specs.Names.{U, same_name}
use Rattle.matrix.specs.State.{State, exists}
use Rattle.matrix.specs.Owners.{Above, owner, higher, walk_from, walk, meets, links_of}
use Rattle.matrix.specs.Valid.{Valid}
use Rattle.matrix.specs.Record.{climb}
use Rattle.laws.specs.Tests.{way, fails, clash}
use Rattle.laws.specs.Walks.{walk_met, walk_root, walk_up, walk_lost}
use Rattle.owners.specs.Framed.{Framed, owner_in, found_owns, valid_framed, owned_exists, root_unowned, owner_same}
use Rattle.owners.specs.Climb.{climb_in}
use Rattle.owners.proofs.Climb.{climb_up, climb_ends, owner_of_below, owner_of_exists}
use Rattle.owners.specs.Walk.{Ends, ends_here, walk_in}

module _ {S : State} (F : Framed S) where
  -- the walk goes up from an existing subject that is neither U nor wanted
  goes_up : (left s : ℕ) (o : Name) (links : ℕ) → exists S s ≡ true → same_name (Subject s) o ≡ false → eqb s U ≡ false →
      walk_in S (suc left) s o links ≡ walk_in S left (owner_in S s) o (links + 1)
  goes_up left s o links e m u = walk_up S.top S.owns left s o links m u (lt-ltb (owner_in S s) S.top (owner_of_below F s (eqb-false s U u) e))

  -- A walk that may visit more subjects than there are links up to U ends, and follows no more links than those.
  ends_from : (left k s : ℕ) (o : Name) (links : ℕ) → exists S s ≡ true → climb_in S k s ≡ U → k < left → Ends (walk_in S left s o links) (links + k)
  unfolding climb
  ends_from zero k s o links e c l = absurd (not-suc-le-zero l)
  ends_from (suc left) zero s o links e c l =
      ⊎_elim (λ m. rw (walk_met S.top S.owns left s o links m) (ends_here (Meets links) (links + 0) refl (omega arith)))
      (λ m. rw (walk_root S.top S.owns left s o links m (eq-eqb s U c)) (ends_here (Root links) (links + 0) refl (omega arith))) (way (same_name (Subject s) o))
  ends_from (suc left) (suc k) s o links e c l =
      ⊎_elim (λ m. rw (walk_met S.top S.owns left s o links m) (ends_here (Meets links) (links + suc k) refl (omega arith)))
      (λ m. ⊎_elim (λ u. rw (walk_root S.top S.owns left s o links m u) (ends_here (Root links) (links + suc k) refl (omega arith)))
      (λ u. let n : s ≢ U = eqb-false s U u in
      let d : links + suc k ≡ links + 1 + k = omega arith in
      rw (goes_up left s o links e m u, d)
      (ends_from left k (owner_in S s) o (links + 1) (owner_of_exists F s n e) (sym (climb_up F k s n e) ∙ c) (omega arith)))
      (way (eqb s U)))
      (way (same_name (Subject s) o))

  -- who is above s is its owner or above its owner
  above_owner : (s v : ℕ) → Above S.owns (Subject s) v → (owner_in S s ≡ v) ⊎ Above S.owns (Subject (owner_in S s)) v
  above_owner s v (owner h) = inl (sym (owner_same F v s h))
  above_owner s v (higher {w = w} h a) = inr (subst (λ (x : ℕ). Above S.owns (Subject x) v) (owner_same F w s h) a)

  -- nobody is above U
  pub root_top : (v : ℕ) → Above S.owns (Subject U) v → ⊥
  root_top v (owner h) = root_unowned F v h
  root_top v (higher {w = w} h a) = root_unowned F w h

  root_not_below : (s v : ℕ) → s ≡ U → Above S.owns (Subject s) v → ⊥
  root_not_below s v q a = root_top v (subst (λ (x : ℕ). Above S.owns (Subject x) v) q a)

  -- Such a walk finds the subject that it starts at and each one above.
  finds_from : (left k s v links : ℕ) → exists S s ≡ true → climb_in S k s ≡ U → k < left → (s ≡ v) ⊎ Above S.owns (Subject s) v →
      meets (walk_in S left s (Subject v) links) ≡ true
  unfolding climb
  finds_from zero k s v links e c l a = absurd (not-suc-le-zero l)
  finds_from (suc left) k s v links e c l (inl q) = ap meets (walk_met S.top S.owns left s (Subject v) links (eq-eqb s v q))
  finds_from (suc left) zero s v links e c l (inr a) = absurd (root_not_below s v c a)
  finds_from (suc left) (suc k) s v links e c l (inr a) =
      ⊎_elim (λ m. ap meets (walk_met S.top S.owns left s (Subject v) links m))
      (λ m. ⊎_elim (λ u. absurd (root_not_below s v (eqb-true s U u) a))
      (λ u. let n : s ≢ U = eqb-false s U u in
      ap meets (goes_up left s (Subject v) links e m u) ∙
      finds_from left k (owner_in S s) v (links + 1) (owner_of_exists F s n e) (sym (climb_up F k s n e) ∙ c) (omega arith) (above_owner s v a))
      (way (eqb s U)))
      (way (eqb s v))

  -- a subject that is absent has no owner, and a walk from it follows no link
  unowned : (s : ℕ) → exists S s ≡ false → ltb (owner_in S s) S.top ≡ false
  unowned s e =
      fails (ltb (owner_in S s) S.top)
      (λ l. clash (owned_exists F (owner_in S s) s (found_owns S s (ltb-true (owner_in S s) S.top l))) e)

  absent_from : (left s : ℕ) (o : Name) → exists S s ≡ false → links_of (walk_in S left s o 0) ≡ 0
  unfolding walk_from
  absent_from zero s o e = refl
  absent_from (suc left) s o e =
      ⊎_elim (λ m. ap links_of (walk_met S.top S.owns left s o 0 m))
      (λ m. ⊎_elim (λ u. ap links_of (walk_root S.top S.owns left s o 0 m u)) (λ u. ap links_of (walk_lost S.top S.owns left s o 0 m u (unowned s e))) (way (eqb s U)))
      (way (same_name (Subject s) o))

-- The walk is never lost.
pub walk_ends : (S : State) → Valid S → (s : ℕ) (o : Name) → exists S s ≡ true → walk S s o ≡ Lost → ⊥
walk_ends S h s o e =
    let c = climb_ends (valid_framed h) h.no_cycle s e in
    (ends_from (valid_framed h) S.top c.0 s o 0 e c.2 c.1).ends

-- Each subject above is met.
pub walk_finds : (S : State) → Valid S → (s v : ℕ) → exists S s ≡ true → Above S.owns (Subject s) v → meets (walk S s (Subject v)) ≡ true
walk_finds S h s v e a =
    let c = climb_ends (valid_framed h) h.no_cycle s e in
    finds_from (valid_framed h) S.top c.0 s v 0 e c.2 c.1 (inr a)

-- Fewer links than `top` are followed.
pub walk_links : (S : State) → Valid S → (s : ℕ) (o : Name) → links_of (walk S s o) < S.top
walk_links S h s o =
    ⊎_elim
    (λ e. let c = climb_ends (valid_framed h) h.no_cycle s e in
    omega (arith, c.1, (ends_from (valid_framed h) S.top c.0 s o 0 e c.2 c.1).links))
    (λ e. omega (arith, h.bound U h.root, absent_from (valid_framed h) S.top s o e)) (way (exists S s))
