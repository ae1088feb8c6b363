-- The way up from an owner of a name to the first untrusted subject: where it finds none, every subject above the name is trusted; where it
-- meets one, a chain of trusted owners leads from it down to the name.
use Prim.Native.Nat.{ℕ}
use Rattle.std.proofs.Common.{inl, inr}
use Rattle.std.specs.Prelude.{◌≡◌, Bool, true, false, List, []}
use Rattle.std.proofs.Math.Path.{refl, subst}
use Rattle.matrix.specs.declared.Name.{Name}
use Rattle.matrix.specs.declared.Name.TheVariants.{Subject}
use Rattle.matrix.specs.declared.Right.TheVariants.{Own}
use Rattle.matrix.specs.State.{State, exists}
use Rattle.matrix.specs.Owners.{Above, owner, higher}
use Rattle.matrix.specs.Valid.{Valid}
use Rattle.owners.specs.Framed.{valid_framed}
use Rattle.owners.proofs.Climb.{climb_ends}
use Rattle.kept.specs.Parts.{Up}
use Rattle.route.specs.Parts.{until_owner, among}
use Rattle.route.specs.Rise.{meets_at, none}
use Rattle.chain.specs.Distinct.{among_none, among_here}
use Rattle.chain.specs.Chain.{Chain, last, above_there, chain_apart, chain_bound, chain_few, chain_fewer, member_above, until_chain, among_until}
use Rattle.chain.specs.Rising.{Met, Reached, Reaches, none_from, reaches, rise_in}

module _ (S : State) (V₁ : Valid S) (trusted : ℕ → Bool) where
  -- The way up from a subject meets no untrusted one: the subject and all above it are trusted.
  pub rise_none : (w : ℕ) → exists S w ≡ true → rise_in S trusted S.top w [] ≡ none
      → (trusted w ≡ true) × ((v : ℕ) → Above S.owns (Subject w) v → trusted v ≡ true)
  rise_none w e h = (each w (inl refl), λ v a. each v (inr a))
    where
      each : (v : ℕ) → Up S.owns w v → trusted v ≡ true
      each v a =
          let c = climb_ends (valid_framed V₁) V₁.no_cycle w e in
          none_from (valid_framed V₁) trusted S.top c.0 w v [] e c.2 c.1 h a

  -- The way up from each owner of a name meets no untrusted subject: all above the name are trusted.
  pub none_above : (o : Name) → ((w : ℕ) → S.owns w o ≡ true → rise_in S trusted S.top w [] ≡ none)
      → (v : ℕ) → Above S.owns o v → trusted v ≡ true
  none_above o h v (owner e) = (rise_none v (V₁.row Own v o e) (h v e)).0
  none_above o h v (higher {w = w} e a) = (rise_none w (V₁.row Own w o e) (h w e)).1 v a

-- all of it follows from the chain
met_by : {S : State} → Valid S → {trusted : ℕ → Bool} {o : Name} {v : ℕ} {ws : List ℕ} → trusted v ≡ false → Chain S.owns o v ws
    → ((u : ℕ) → among u ws ≡ true → trusted u ≡ true) → Met S trusted o v ws
met_by V₁ {o = o} {v = v} {ws = ws} untrusted chain trusting =
    record {
      untrusted = untrusted;
      there = above_there V₁ v (member_above v chain (among_here v ws));
      chain = chain;
      trusting = trusting;
      above = λ u m. member_above u chain m;
      existing = λ u m. above_there V₁ u (member_above u chain m);
      apart = λ u m. chain_apart V₁ u chain m;
      below = λ u m. chain_bound V₁ u chain m;
      few = chain_few V₁ chain;
      fewer = λ k. chain_fewer V₁ o k chain;
    }

pub rise_meets : (S : State) → Valid S → (trusted : ℕ → Bool) (o : Name) (w v : ℕ) (ws : List ℕ) → S.owns w o ≡ true
    → rise_in S trusted S.top w [] ≡ meets_at v ws → Met S trusted o v ws
rise_meets S V₁ trusted o w v ws own h =
    let r : Reached S.owns trusted o v ws =
    subst (Reaches S.owns trusted o) h (reaches S trusted o S.top w [] (last own) (λ u m. absurd (among_none u m))) in
    met_by V₁ r.untrusted r.chain r.trusting

-- The same holds of those between v and the first that owns o.
pub met_until : {S : State} → Valid S → {trusted : ℕ → Bool} {o : Name} {v : ℕ} {ws : List ℕ} → Met S trusted o v ws
    → Met S trusted o v (until_owner S.owns o ws)
met_until {S} V₁ {o = o} {ws = ws} m =
    met_by V₁ m.untrusted (until_chain m.chain) (λ u a. m.trusting u (among_until S.owns o u ws a))
