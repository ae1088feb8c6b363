-- The trusted subjects on the way destroyed in turn, the highest first: v, which owned the highest of them, owns o then.
use Rattle.std.specs.Prelude.{ℕ, suc, ◌≡◌, refl, ◌≢◌, ◌⊎◌, Bool, true, false, cond, not, ◌&&◌, ◌||◌, List, [], ◌∷◌, eqb, length}
use Rattle.std.proofs.Common.{ap, subst, inl, inr, ⊎_elim, eqb-true}
use Rattle.matrix.specs.declared.Name.{Name}
use Rattle.matrix.specs.declared.Name.TheVariants.{Subject}
use Rattle.matrix.specs.declared.Right.TheVariants.{Own}
use Rattle.matrix.specs.declared.Shape.{Shape}
use Rattle.matrix.specs.Names.{same_name, column_of}
use Rattle.matrix.specs.State.{State, exists, exists_name, clear}
use Rattle.matrix.specs.Owners.{Above, owner, higher}
use Rattle.matrix.specs.Valid.{Valid}
use Rattle.matrix.specs.Changes.{inherit, in_cross}
use Rattle.matrix.specs.Shaped.{Within}
use Rattle.laws.specs.Tests.{fails, and_both, or_cases, or_left, or_right}
use Rattle.laws.specs.Same.{eqb_same, same_name_eq}
use Rattle.laws.specs.Changed.{inherit_bit}
use Rattle.kept.specs.Cells.{clear_found, clear_other}
use Rattle.kept.specs.Parts.{Up, up_link, above_heir}
use Rattle.question.specs.Leaks.{Untrusted}
use Rattle.route.specs.Parts.{destroys_all, among}
use Rattle.route.specs.RunsTo.{RunsTo}
use Rattle.chain.specs.Distinct.{among_not_here, among_not_later}
use Rattle.chain.specs.Chain.{Chain, last, link}

-- v destroyed w
abbrev pub destroyed : ℕ → ℕ → State → State
destroyed v w S = clear (in_cross w) (inherit v w S)

-- whether a subject is left: e, it existed; t, it is the one destroyed; m, it is among those destroyed later
left_one : (t e : Bool) → cond (t || t) false e ≡ (e && not t)
left_one true true = refl
left_one true false = refl
left_one false true = refl
left_one false false = refl

pub left_later : (e t m : Bool) → (e && not t && not m) ≡ (e && not (t || m))
left_later true true m = refl
left_later true false m = refl
left_later false t m = refl

pub left_none : (e : Bool) → e ≡ (e && true)
left_none true = refl
left_none false = refl

-- One destruction: what is owned by another than w stays owned, and what w owned v owns.
module _ (S : State) (v w : ℕ) where
  outside : (u : ℕ) (x : Name) → u ≢ w → x ≢ Subject w → in_cross w u x ≡ false
  outside u x r c =
      fails (in_cross w u x) (λ e. ⊎_elim (λ a. c (same_name_eq x (Subject w) a)) (λ b. r (eqb-true u w b)) (or_cases (same_name x (Subject w)) (eqb u w) e))

  own_stays : (u : ℕ) (x : Name) → u ≢ w → x ≢ Subject w → S.owns u x ≡ true → (destroyed v w S).owns u x ≡ true
  own_stays u x r c h = clear_other (in_cross w) (inherit v w S).owns u x (outside u x r c) (or_left (eqb u v && S.owns w x) h)

  own_gained : (x : Name) → v ≢ w → x ≢ Subject w → S.owns w x ≡ true → (destroyed v w S).owns v x ≡ true
  own_gained x r c h = clear_other (in_cross w) (inherit v w S).owns v x (outside v x r c) (or_right (S.owns v x) (and_both (eqb_same v) h))

  -- so a chain that w is not in stays, and a chain that began at w begins at v
  chain_stays : {o : Name} {u : ℕ} {us : List ℕ} → o ≢ Subject w → among w (u ∷ us) ≡ false → Chain S.owns o u us
      → Chain (destroyed v w S).owns o u us
  chain_stays {o} c n (last {v = u} h) = last (own_stays u o (among_not_here w u [] n) c h)
  chain_stays c n (link {v = u} {w = x} {ws = us} h rest) =
      let m = among_not_later w u (x ∷ us) n in
      link (own_stays u (Subject x) (among_not_here w u (x ∷ us) n) (λ e. among_not_here w x us m (ap column_of e)) h) (chain_stays c m rest)

  pub chain_gained : {o : Name} {us : List ℕ} → v ≢ w → o ≢ Subject w → among w us ≡ false → Chain S.owns o w us
      → Chain (destroyed v w S).owns o v us
  chain_gained {o} r c n (last h) = last (own_gained o r c h)
  chain_gained r c n (link {w = x} {ws = us} h rest) =
      link (own_gained (Subject x) r (λ e. among_not_here w x us n (ap column_of e)) h) (chain_stays c n rest)

  -- who owns a name then owned it, or is v and w owned it
  old_link : (u : ℕ) (x : Name) → (destroyed v w S).owns u x ≡ true → (S.owns u x ≡ true) ⊎ ((u ≡ v) × (S.owns w x ≡ true))
  old_link u x h =
      ⊎_elim (λ old. inl old) (λ p. inr (p.1, p.2)) (inherit_bit v w S Own u x (clear_found (in_cross w) (inherit v w S).owns u x h).1)

  -- so nobody comes to be above a name where v owned w: one link, and then a chain of them
  old_from : S.owns v (Subject w) ≡ true → (x : Name) (b u : ℕ) → (destroyed v w S).owns b x ≡ true → Up S.owns b u → Above S.owns x u
  old_from own x b u h up =
      ⊎_elim (λ old. ⊎_elim (λ e. owner (subst (λ (n : ℕ). S.owns n x ≡ true) e old)) (λ more. higher old more) up)
      (λ p. higher p.1 (up_link S.owns w v u own (subst (λ (n : ℕ). Up S.owns n u) p.0 up))) (old_link b x h)

  pub old_above : S.owns v (Subject w) ≡ true → (x : Name) (u : ℕ) → Above (destroyed v w S).owns x u → Above S.owns x u
  old_above own x u (owner h) = old_from own x u u h (inl refl)
  old_above own x u (higher {w = b} h up) =
      old_from own x b u h (inr (above_heir S.owns (destroyed v w S).owns v w own (λ c d e. old_link c (Subject d) e) b u up))

  -- all that existed but w are left
  pub exists_left : (u : ℕ) → exists (destroyed v w S) u ≡ (exists S u && not (eqb u w))
  exists_left u = left_one (eqb u w) (exists S u)

-- What holds after v destroyed each of ws in turn, from the state S to the state T: v owns o, the subjects ws are gone and no others, and
-- nobody came to control a name or to be above one.
pub record Cleared (f : Shape) (S : State) (v : ℕ) (ws : List ℕ) (o : Name) (T : State) : Type 0 where
  pub runs : RunsTo f S (destroys_all v ws) T
  pub valid : Valid T
  pub within : Within f T
  pub top : T.top ≡ S.top
  pub there : exists T v ≡ true
  pub owning : T.owns v o ≡ true
  pub name : exists_name T o ≡ true
  pub existing : (u : ℕ) → exists T u ≡ (exists S u && not (among u ws))
  pub controls : (u : ℕ) (x : Name) → T.controls u x ≡ true → S.controls u x ≡ true
  pub above : (x : Name) (u : ℕ) → Above T.owns x u → Above S.owns x u

-- v begins every command, and there are as many as subjects to destroy
pub destroys_begun : (trusted : ℕ → Bool) (v : ℕ) (ws : List ℕ) → trusted v ≡ false → Untrusted trusted (destroys_all v ws)
unfolding destroys_all
destroys_begun trusted v [] h = tt
destroys_begun trusted v (w ∷ ws) h = (h, destroys_begun trusted v ws h)

pub destroys_length : (v : ℕ) (ws : List ℕ) → length (destroys_all v ws) ≡ length ws
unfolding destroys_all
destroys_length v [] = refl
destroys_length v (w ∷ ws) = ap suc (destroys_length v ws)
