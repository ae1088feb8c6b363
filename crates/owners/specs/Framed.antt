-- Every condition of Valid but the last, that no subject is above itself, and what the others say of a subject's owner.
use Rattle.std.specs.Prelude.{ℕ, ◌<◌, ◌≡◌, ◌≢◌, true, false}
use Rattle.std.proofs.Common.{subst}
use Rattle.matrix.specs.declared.Name.{Name}
use Rattle.matrix.specs.declared.Name.TheVariants.{Subject, Plain}
use Rattle.matrix.specs.declared.Right.{Right}
use Rattle.matrix.specs.declared.Right.TheVariants.{Own}
use Rattle.matrix.specs.Names.{U}
use Rattle.matrix.specs.State.{State, has, exists, exists_name}
use Rattle.matrix.specs.Owners.{Above, owner_of}
use Rattle.matrix.specs.Valid.{Valid}
use Rattle.laws.specs.Tests.{clash}
use Rattle.laws.specs.Bounded.{least_found, least_passes}

-- the owner of subject s in a state
abbrev pub owner_in : State → ℕ → ℕ
owner_in S s = owner_of S.top S.owns s

-- what the search for an owner finds below `top` is an owner
pub found_owns : (S : State) (s : ℕ) → owner_in S s < S.top → S.owns (owner_in S s) (Subject s) ≡ true
found_owns S s l = least_passes S.top (λ w. S.owns w (Subject s)) l

pub record Framed (S : State) : Type 0 where
  pub row : (y : Right) (w : ℕ) (x : Name) → has S y w x ≡ true → exists S w ≡ true
  pub column : (y : Right) (w : ℕ) (x : Name) → has S y w x ≡ true → exists_name S x ≡ true
  pub plain : (w o : ℕ) → S.controls w (Plain o) ≡ false
  pub root : exists S U ≡ true
  pub root_owner : (w : ℕ) → S.owns w (Subject U) ≡ false
  pub root_controller : (w : ℕ) → S.controls w (Subject U) ≡ true → w ≡ U
  pub owned : (s : ℕ) → s ≢ U → exists S s ≡ true → (w : ℕ) × (S.owns w (Subject s) ≡ true)
  pub one_owner : (s w v : ℕ) → S.owns w (Subject s) ≡ true → S.owns v (Subject s) ≡ true → w ≡ v
  pub one_controller : (s w v : ℕ) → S.controls w (Subject s) ≡ true → w ≢ s → S.controls v (Subject s) ≡ true → v ≢ s → w ≡ v
  pub bound : (s : ℕ) → exists S s ≡ true → s < S.top

pub valid_framed : {S : State} → Valid S → Framed S
valid_framed V₁ =
    record {
      row = V₁.row;
      column = V₁.column;
      plain = V₁.plain;
      root = V₁.root;
      root_owner = V₁.root_owner;
      root_controller = V₁.root_controller;
      owned = V₁.owned;
      one_owner = V₁.one_owner;
      one_controller = V₁.one_controller;
      bound = V₁.bound;
    }

pub framed_valid : {S : State} → Framed S → ((s : ℕ) → Above S.owns (Subject s) s → ⊥) → Valid S
framed_valid F h =
    record {
      row = F.row;
      column = F.column;
      plain = F.plain;
      root = F.root;
      root_owner = F.root_owner;
      root_controller = F.root_controller;
      owned = F.owned;
      one_owner = F.one_owner;
      one_controller = F.one_controller;
      no_cycle = h;
      bound = F.bound;
    }

module _ {S : State} (F : Framed S) where
  -- an owner exists, and is below `top`
  pub owner_exists : (w : ℕ) (x : Name) → S.owns w x ≡ true → exists S w ≡ true
  owner_exists w x h = F.row Own w x h

  pub owner_below : (w : ℕ) (x : Name) → S.owns w x ≡ true → w < S.top
  owner_below w x h = F.bound w (owner_exists w x h)

  -- nobody owns U
  pub root_unowned : (w : ℕ) → S.owns w (Subject U) ≡ true → ⊥
  root_unowned w h = clash h (F.root_owner w)

  pub owned_not_root : (w : ℕ) (x : Name) → S.owns w x ≡ true → x ≢ Subject U
  owned_not_root w x h e = root_unowned w (subst (λ (y : Name). S.owns w y ≡ true) e h)

  -- an owned subject exists
  pub owned_exists : (w s : ℕ) → S.owns w (Subject s) ≡ true → exists S s ≡ true
  owned_exists w s h = F.column Own w (Subject s) h

  -- `owner_of` finds the owner of a subject that has one
  pub owner_found : (w s : ℕ) → S.owns w (Subject s) ≡ true → owner_in S s < S.top
  owner_found w s h = least_found S.top (λ v. S.owns v (Subject s)) w (owner_below w (Subject s) h) h

  pub owner_owns : (w s : ℕ) → S.owns w (Subject s) ≡ true → S.owns (owner_in S s) (Subject s) ≡ true
  owner_owns w s h = found_owns S s (owner_found w s h)

  pub owner_same : (w s : ℕ) → S.owns w (Subject s) ≡ true → w ≡ owner_in S s
  owner_same w s h = F.one_owner s w (owner_in S s) h (owner_owns w s h)
