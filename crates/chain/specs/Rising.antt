-- The way up from an owner of a name to the first untrusted subject: where it finds none, every subject above the name is trusted; where it
-- meets one, a chain of trusted owners leads from it down to the name.
use Prim.Native.Nat.{ℕ, zero, suc, ◌+◌, ◌≤◌, ◌<◌}
use Rattle.std.proofs.Common.{not-suc-le-zero, arith, sym, ◌∙◌, ap, inl, inr}
use Rattle.std.specs.Prelude.{◌≡◌, ◌≢◌, Bool, true, false, List, ◌∷◌, eqb, ltb, length}
use Rattle.std.proofs.Math.Path.{refl, subst}
use Rattle.std.proofs.Math.Logic.{⊎_elim}
use borrow.Author.Tests.{eqb-true, eqb-false, lt-ltb, ltb-true}
use Rattle.matrix.specs.declared.Name.{Name}
use Rattle.matrix.specs.declared.Name.TheVariants.{Subject}
use Rattle.matrix.specs.Names.{U, is_subject}
use Rattle.matrix.specs.State.{State, exists}
use Rattle.matrix.specs.Owners.{Above, owner, higher, owner_of}
use Rattle.matrix.specs.Record.{climb}
use Rattle.laws.specs.Tests.{way, clash, holds}
use Rattle.owners.specs.Framed.{Framed, owner_in, found_owns, owner_same}
use Rattle.owners.specs.Climb.{climb_in}
use Rattle.owners.proofs.Climb.{climb_up, owner_of_below, owner_of_exists}
use Rattle.owners.proofs.Walk.{root_top}
use Rattle.kept.specs.Parts.{Up}
use Rattle.route.specs.Parts.{among}
use Rattle.route.specs.Rise.{Risen, meets_at, none, rise, rises}
use Rattle.chain.specs.Distinct.{among_cases}
use Rattle.chain.specs.Chain.{Chain, link}

-- One subject on the way: it is untrusted, or it is U, or the way goes on to its owner, or it has none.
module _ (top : ℕ) (owns : ℕ → Name → Bool) (trusted : ℕ → Bool) (left w : ℕ) (passed : List ℕ) where
  pub rise_here : trusted w ≡ false → rise top owns trusted (suc left) w passed ≡ meets_at w passed
  unfolding rise
  rise_here t = rw t refl

  pub rise_root : trusted w ≡ true → eqb w U ≡ true → rise top owns trusted (suc left) w passed ≡ none
  unfolding rise
  rise_root t u = rw (t, u) refl

  pub rise_up : trusted w ≡ true → eqb w U ≡ false → ltb (owner_of top owns w) top ≡ true
      → rise top owns trusted (suc left) w passed ≡ rise top owns trusted left (owner_of top owns w) (w ∷ passed)
  unfolding rise
  rise_up t u l = rw (t, u, l) refl

  pub rise_lost : trusted w ≡ true → eqb w U ≡ false → ltb (owner_of top owns w) top ≡ false
      → rise top owns trusted (suc left) w passed ≡ none
  unfolding rise
  rise_lost t u l = rw (t, u, l) refl

-- the way up in a state that may visit `left` more subjects
abbrev pub rise_in : State → (ℕ → Bool) → ℕ → ℕ → List ℕ → Risen
rise_in S trusted left w passed = rise S.top S.owns trusted left w passed

module _ {S : State} (F : Framed S) (trusted : ℕ → Bool) where
  -- who is above a subject is its owner or above its owner
  up_owner : (w v : ℕ) → Above S.owns (Subject w) v → Up S.owns (owner_in S w) v
  up_owner w v (owner h) = inl (sym (owner_same F v w h))
  up_owner w v (higher {w = u} h a) = inr (subst (λ (x : ℕ). Above S.owns (Subject x) v) (owner_same F u w h) a)

  -- where the way that starts at a subject meets no untrusted one, the subject is trusted
  none_here : (left w : ℕ) (passed : List ℕ) → rise_in S trusted (suc left) w passed ≡ none → trusted w ≡ true
  none_here left w passed h =
      holds (trusted w) (λ f. clash refl (ap rises (sym (rise_here S.top S.owns trusted left w passed f) ∙ h)))

  -- and where the way may visit more subjects than there are links up to U, so is each one above
  pub none_from : (left k w v : ℕ) (passed : List ℕ) → exists S w ≡ true → climb_in S k w ≡ U → k < left → rise_in S trusted left w passed ≡ none
      → Up S.owns w v → trusted v ≡ true
  unfolding climb
  none_from zero k w v passed e c l h a = absurd (not-suc-le-zero l)
  none_from (suc left) k w v passed e c l h (inl q) = subst (λ (x : ℕ). trusted x ≡ true) q (none_here left w passed h)
  none_from (suc left) zero w v passed e c l h (inr a) = absurd (root_top F v (subst (λ (x : ℕ). Above S.owns (Subject x) v) c a))
  none_from (suc left) (suc k) w v passed e c l h (inr a) =
      ⊎_elim (λ u. absurd (root_top F v (subst (λ (x : ℕ). Above S.owns (Subject x) v) (eqb-true w U u) a)))
      (λ u. let n : w ≢ U = eqb-false w U u in
      let up = rise_up S.top S.owns trusted left w passed (none_here left w passed h) u (lt-ltb (owner_in S w) S.top (owner_of_below F w n e)) in
      none_from left k (owner_in S w) v (w ∷ passed) (owner_of_exists F w n e) (sym (climb_up F k w n e) ∙ c) (omega arith) (sym up ∙ h) (up_owner w v a))
      (way (eqb w U))

-- an untrusted subject with a chain of trusted owners down to a name
pub record Reached (owns : ℕ → Name → Bool) (trusted : ℕ → Bool) (o : Name) (v : ℕ) (ws : List ℕ) : Type 0 where
  pub untrusted : trusted v ≡ false
  pub chain : Chain owns o v ws
  pub trusting : (u : ℕ) → among u ws ≡ true → trusted u ≡ true

abbrev pub Reaches : (ℕ → Name → Bool) → (ℕ → Bool) → Name → Risen → Type 0
Reaches owns trusted o (meets_at v ws) = Reached owns trusted o v ws
Reaches owns trusted o none = Unit

-- What is met has such a chain, where the start with what was passed is one. This holds of every state.
pub reaches : (S : State) (trusted : ℕ → Bool) (o : Name) (left w : ℕ) (passed : List ℕ) → Chain S.owns o w passed
    → ((u : ℕ) → among u passed ≡ true → trusted u ≡ true) → Reaches S.owns trusted o (rise_in S trusted left w passed)
unfolding rise
reaches S trusted o zero w passed c each = tt
reaches S trusted o (suc left) w passed c each =
    ⊎_elim (λ t. ⊎_elim (λ u. rw (rise_root S.top S.owns trusted left w passed t u) tt)
    (λ u. ⊎_elim
    (λ l. rw (rise_up S.top S.owns trusted left w passed t u l)
    (reaches S trusted o left (owner_in S w) (w ∷ passed) (link (found_owns S w (ltb-true (owner_in S w) S.top l)) c) (one_more t)))
    (λ l. rw (rise_lost S.top S.owns trusted left w passed t u l) tt) (way (ltb (owner_in S w) S.top)))
    (way (eqb w U)))
    (λ t. rw (rise_here S.top S.owns trusted left w passed t) (record { untrusted = t; chain = c; trusting = each }))
    (way (trusted w))
  where
    one_more : trusted w ≡ true → (u : ℕ) → among u (w ∷ passed) ≡ true → trusted u ≡ true
    one_more t u m = ⊎_elim (λ e. subst (λ (x : ℕ). trusted x ≡ true) (sym e) t) (λ p. each u p) (among_cases u w passed m)

-- What holds where the way up from an owner of o meets v, having passed ws.
pub record Met (S : State) (trusted : ℕ → Bool) (o : Name) (v : ℕ) (ws : List ℕ) : Type 0 where
  pub untrusted : trusted v ≡ false
  pub there : exists S v ≡ true
  pub chain : Chain S.owns o v ws
  pub trusting : (u : ℕ) → among u ws ≡ true → trusted u ≡ true
  -- v and those passed are above o, exist, and are none other than each other or o
  pub above : (u : ℕ) → among u (v ∷ ws) ≡ true → Above S.owns o u
  pub existing : (u : ℕ) → among u (v ∷ ws) ≡ true → exists S u ≡ true
  pub apart : (u : ℕ) → among u (v ∷ ws) ≡ true → o ≢ Subject u
  pub below : (u : ℕ) → among u (v ∷ ws) ≡ true → u < S.top
  -- so they are at most as many as subjects may exist
  pub few : length ws + 1 ≤ S.top
  pub fewer : is_subject o ≡ true → length ws + 2 ≤ S.top
