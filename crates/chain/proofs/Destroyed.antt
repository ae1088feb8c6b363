-- The trusted subjects on the way destroyed in turn, the highest first: v, which owned the highest of them, owns o then.
use Rattle.std.specs.Prelude.{ℕ, ◌<◌, ◌≡◌, refl, ◌≢◌, ◌⊎◌, Bool, true, false, not, ◌&&◌, List, [], ◌∷◌, eqb}
use Rattle.std.proofs.Common.{sym, ◌∙◌, ap, subst, ⊎_elim, ltb-true}
use Rattle.matrix.specs.declared.Name.{Name}
use Rattle.matrix.specs.declared.Name.TheVariants.{Subject}
use Rattle.matrix.specs.declared.Right.TheVariants.{Own}
use Rattle.matrix.specs.declared.Shape.{Shape}
use Rattle.matrix.specs.State.{State, exists}
use Rattle.matrix.specs.Owners.{walk, meets}
use Rattle.matrix.specs.Valid.{Valid}
use Rattle.matrix.specs.Changes.{inherit, in_cross}
use Rattle.matrix.specs.Tests.{other_controller}
use Rattle.matrix.specs.Shaped.{Within}
use Rattle.laws.specs.Tests.{clash, fails, and_left}
use Rattle.owners.specs.Walk.{walk_self, walk_found}
use Rattle.owners.proofs.Walk.{walk_finds}
use Rattle.kept.specs.Cells.{clear_found}
use Rattle.kept.proofs.Subjects.{destroyed_keeps}
use Rattle.frame.specs.Stays.{within_clear, within_inherit}
use Rattle.frame.specs.Top.{controller_found}
use Rattle.route.specs.Parts.{destroys_all, among}
use Rattle.route.specs.RunsTo.{done, step}
use Rattle.steps.specs.Accepted.{destroy_accepted}
use Rattle.chain.specs.Distinct.{among_here, among_later, among_not_here}
use Rattle.chain.specs.Chain.{Chain, last, link, chain_distinct, chain_apart}
use Rattle.chain.specs.Destroyed.{Cleared, chain_gained, destroyed, exists_left, left_later, left_none, old_above}

-- Where v heads a chain of owners ws down to o, it may destroy them all.
pub clears : (f : Shape) (S : State) (v : ℕ) (ws : List ℕ) (o : Name) → Valid S → Within f S → Chain S.owns o v ws
    → (T : State) × Cleared f S v ws o T
unfolding destroys_all among
clears f S v [] o V₁ k (last h) = (
  S,
  record {
    runs = done;
    valid = V₁;
    within = k;
    top = refl;
    there = V₁.row Own v o h;
    owning = h;
    name = V₁.column Own v o h;
    existing = λ u. left_none (exists S u);
    controls = λ u x e. e;
    above = λ x u a. a;
  },
)
clears f S v (w ∷ ws) o V₁ k (link h c) =
    let d = chain_distinct V₁ (link h c) in
    let differs : v ≢ w = λ e. among_not_here v w ws d.0 (sym e) in
    let apart : o ≢ Subject w = chain_apart V₁ w (link h c) (among_later w v (w ∷ ws) (among_here w ws)) in
    let row : v < f.n = k.row Own v (Subject w) h in
    let column : w < f.n = ltb-true w f.n (k.column Own v (Subject w) h) in
    let S' = destroyed v w S in
    let r = clears f S' v ws o (destroyed_keeps S v w V₁ (V₁.row Own v (Subject w) h) h)
    (within_clear f (in_cross w) (inherit v w S) (within_inherit f v w S k row)) (chain_gained S v w differs apart d.1.0 c) in
    let T = r.0 in
    let p = r.1 in (
      T,
      record {
        runs = step (destroy_accepted f v w V₁ row column h) p.runs;
        valid = p.valid;
        within = p.within;
        top = p.top;
        there = p.there;
        owning = p.owning;
        name = p.name;
        existing = λ u. p.existing u ∙ ap (λ (e : Bool). e && not (among u ws)) (exists_left S v w u) ∙ left_later (exists S u) (eqb u w) (among u ws);
        controls = λ u x e. (clear_found (in_cross w) S.controls u x (p.controls u x e)).1;
        above = λ x u a. old_above S v w h x u (p.above x u a);
      },
    )

module _ {f : Shape} {S T : State} {v : ℕ} {ws : List ℕ} {o : Name} (V₁ : Valid S) (p : Cleared f S v ws o T) where
  -- who exists then existed
  pub cleared_before : (u : ℕ) → exists T u ≡ true → exists S u ≡ true
  cleared_before u e = and_left (exists S u) (not (among u ws)) (sym (p.existing u) ∙ e)

  -- a name that no other controlled is controlled by no other
  pub cleared_alone : (x : Name) → other_controller S x ≡ false → other_controller T x ≡ false
  cleared_alone x h =
      fails (other_controller T x) (λ e. let c = (controller_found p.valid x).0 e in
      clash ((controller_found V₁ x).1 (c.0, p.controls c.0 x c.1, c.2)) h)

  -- and a walk that did not meet a name does not meet it, where it starts at a subject that is left
  pub cleared_apart : (s : ℕ) (x : Name) → exists T s ≡ true → meets (walk S s x) ≡ false → meets (walk T s x) ≡ false
  cleared_apart s x e h =
      fails (meets (walk T s x))
      (λ m. ⊎_elim (λ q. clash (subst (λ (y : Name). meets (walk S s y) ≡ true) (sym q) (ap meets (walk_self S V₁ s))) h)
      (λ u. clash (subst (λ (y : Name). meets (walk S s y) ≡ true) (sym u.1)
      (walk_finds S V₁ s u.0 (cleared_before s e) (p.above (Subject s) u.0 u.2))) h)
      (walk_found T s x m))
