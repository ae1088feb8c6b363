-- A chain of owners down to a name: v owns the first of the subjects ws, which owns the next, and so on; the last owns o. Where there are
-- none between them, v owns o.
use Rattle.std.specs.Prelude.{ℕ, suc, ◌+◌, ◌≤◌, ◌<◌, ◌≡◌, ◌≢◌, Bool, true, cond, length}
use Rattle.std.proofs.Common.{arith, sym, subst}
use Rattle.std.proofs.Math.Logic.{⊎_elim}
use Rattle.std.proofs.lemmas.Bool.{false≢true}
use mathlib.Core.List.{List, [], ◌∷◌}
use Rattle.matrix.specs.declared.Name.{Name}
use Rattle.matrix.specs.declared.Name.TheVariants.{Subject, Plain}
use Rattle.matrix.specs.declared.Right.TheVariants.{Own}
use Rattle.matrix.specs.Names.{is_subject}
use Rattle.matrix.specs.State.{State, exists, exists_name}
use Rattle.matrix.specs.Owners.{Above, owner}
use Rattle.matrix.specs.Valid.{Valid}
use Rattle.laws.specs.Tests.{way, fails}
use Rattle.owners.specs.Rooted.{above_trans}
use Rattle.kept.specs.Parts.{above_owns}
use Rattle.route.specs.Parts.{until_owner, among}
use Rattle.chain.specs.Distinct.{among_here, among_later, among_cases, among_none, Distinct, distinct_few}

pub data Chain (owns : ℕ → Name → Bool) (o : Name) : ℕ → List ℕ → Type 0 where
  last : {v : ℕ} → owns v o ≡ true → Chain owns o v []
  link : {v w : ℕ} {ws : List ℕ} → owns v (Subject w) ≡ true → Chain owns o w ws → Chain owns o v (w ∷ ws)

-- those up to the first that owns the name are some of the same subjects
pub among_until : (owns : ℕ → Name → Bool) (o : Name) (u : ℕ) (ws : List ℕ) → among u (until_owner owns o ws) ≡ true → among u ws ≡ true
unfolding until_owner
among_until owns o u [] m = m
among_until owns o u (w ∷ ws) m =
    ⊎_elim (λ q. subst (λ (x : ℕ). among x (w ∷ ws) ≡ true) (sym q) (among_here w ws))
    (λ l. among_later u w ws
    (⊎_elim (λ e. absurd (among_none u (rw e at l))) (λ e. among_until owns o u ws (rw e at l)) (way (owns w o))))
    (among_cases u w (cond (owns w o) [] (until_owner owns o ws)) m)

module _ {owns : ℕ → Name → Bool} {o : Name} where
  -- the first is above the name, and above every other of the chain; so all are above the name
  pub chain_above : {v : ℕ} {ws : List ℕ} → Chain owns o v ws → Above owns o v
  chain_above (last h) = owner h
  chain_above (link h c) = above_trans (chain_above c) (owner h)

  pub chain_below : {v : ℕ} {ws : List ℕ} (u : ℕ) → Chain owns o v ws → among u ws ≡ true → Above owns (Subject u) v
  chain_below u (last h) m = absurd (among_none u m)
  chain_below u (link {v = v} {w = w} {ws = ws} h c) m =
      ⊎_elim (λ e. subst (λ (x : ℕ). Above owns (Subject x) v) (sym e) (owner h)) (λ l. above_trans (chain_below u c l) (owner h))
      (among_cases u w ws m)

  pub member_above : {v : ℕ} {ws : List ℕ} (u : ℕ) → Chain owns o v ws → among u (v ∷ ws) ≡ true → Above owns o u
  member_above {v} u (last h) m = ⊎_elim (λ e. subst (λ (x : ℕ). Above owns o x) (sym e) (owner h)) (λ l. absurd (among_none u l)) (among_cases u v [] m)
  member_above {v} u (link {w = w} {ws = ws} h c) m =
      ⊎_elim (λ e. subst (λ (x : ℕ). Above owns o x) (sym e) (chain_above (link h c))) (λ l. member_above u c l) (among_cases u v (w ∷ ws) m)

  -- the chain down to the first after v that owns the name is one too
  pub until_chain : {v : ℕ} {ws : List ℕ} → Chain owns o v ws → Chain owns o v (until_owner owns o ws)
  unfolding until_owner
  until_chain (last h) = last h
  until_chain (link {w = w} {ws = ws} h c) =
      let rest : Chain owns o w (cond (owns w o) [] (until_owner owns o ws)) = ⊎_elim (λ e. rw e (last e)) (λ e. rw e (until_chain c)) (way (owns w o)) in
      link h rest

-- In a valid state nobody is met again, so that the chain has no repetition and does not come to o itself.
module _ {S : State} (V₁ : Valid S) {o : Name} where
  -- whoever is above a name exists
  pub above_there : (u : ℕ) → Above S.owns o u → exists S u ≡ true
  above_there u a = let y = above_owns S.owns o u a in V₁.row Own u y.0 y.1

  pub chain_name : {v : ℕ} {ws : List ℕ} → Chain S.owns o v ws → exists_name S o ≡ true
  chain_name (last {v = v} h) = V₁.column Own v o h
  chain_name (link h c) = chain_name c

  pub chain_distinct : {v : ℕ} {ws : List ℕ} → Chain S.owns o v ws → Distinct (v ∷ ws)
  chain_distinct (last {v = v} h) = (fails (among v []) (among_none v), tt)
  chain_distinct (link {v = v} {w = w} {ws = ws} h c) =
      (fails (among v (w ∷ ws)) (λ m. V₁.no_cycle v (chain_below v (link h c) m)), chain_distinct c)

  pub chain_apart : {v : ℕ} {ws : List ℕ} (u : ℕ) → Chain S.owns o v ws → among u (v ∷ ws) ≡ true → o ≢ Subject u
  chain_apart u c m e = V₁.no_cycle u (subst (λ (x : Name). Above S.owns x u) e (member_above u c m))

  pub chain_bound : {v : ℕ} {ws : List ℕ} (u : ℕ) → Chain S.owns o v ws → among u (v ∷ ws) ≡ true → u < S.top
  chain_bound u c m = V₁.bound u (above_there u (member_above u c m))

  pub chain_few : {v : ℕ} {ws : List ℕ} → Chain S.owns o v ws → length ws + 1 ≤ S.top
  chain_few {v} {ws} c =
      let l : suc (length ws) ≤ S.top = distinct_few S.top (v ∷ ws) (chain_distinct c) (λ u m. chain_bound u c m) in
      omega arith

-- and where o is a subject, it is one more of the subjects that exist
pub chain_fewer : {S : State} → Valid S → (o : Name) {v : ℕ} {ws : List ℕ} → is_subject o ≡ true → Chain S.owns o v ws → length ws + 2 ≤ S.top
chain_fewer V₁ (Plain c) k h = absurd (false≢true k)
chain_fewer {S} V₁ (Subject c) {v} {ws} k h =
    let l : suc (suc (length ws)) ≤ S.top = distinct_few S.top (c ∷ v ∷ ws)
    (fails (among c (v ∷ ws)) (λ m. V₁.no_cycle c (member_above c h m)), chain_distinct V₁ h) below in
    omega arith
  where
    below : (u : ℕ) → among u (c ∷ v ∷ ws) ≡ true → u < S.top
    below u m =
        ⊎_elim (λ e. subst (λ (x : ℕ). x < S.top) (sym e) (V₁.bound c (chain_name V₁ h))) (λ l. chain_bound V₁ u h l)
        (among_cases u c (v ∷ ws) m)
