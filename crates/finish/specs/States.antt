-- The states in which a name was created, a subject destroyed or a right given: what exists, who owns and who controls.
use Rattle.std.specs.Prelude.{ℕ, ◌≡◌, refl, ◌≢◌, ◌⊎◌, Bool, true, false, cond, ◌&&◌, ◌||◌, eqb}
use Rattle.std.proofs.Common.{sym, ◌∙◌, ap, subst, inl, inr, ⊎_elim, ne_eqb}
use Rattle.matrix.specs.declared.Name.{Name}
use Rattle.matrix.specs.declared.Name.TheVariants.{Subject}
use Rattle.matrix.specs.declared.Form.{Form}
use Rattle.matrix.specs.declared.Form.TheVariants.{Starred}
use Rattle.matrix.specs.declared.Right.{Right}
use Rattle.matrix.specs.declared.Right.TheVariants.{Own, Control, Basic}
use Rattle.matrix.specs.Names.{same_name, column_of}
use Rattle.matrix.specs.State.{State, has, held, exists, exists_name, put, clear}
use Rattle.matrix.specs.Owners.{Above, owner, higher, walk, meets}
use Rattle.matrix.specs.Changes.{inherit, in_cross}
use Rattle.matrix.specs.Touched.{is_bit}
use Rattle.matrix.specs.Tests.{other_controller}
use Rattle.matrix.specs.Valid.{Valid}
use Rattle.laws.specs.Tests.{clash, fails, and_both, or_left, or_right}
use Rattle.laws.specs.Same.{eqb_same, same_right_refl, is_cell_same}
use Rattle.laws.specs.Changed.{has_put}
use Rattle.owners.specs.Walk.{walk_found}
use Rattle.kept.specs.Cells.{put_found, put_new, put_keeps}
use Rattle.kept.specs.Parts.{above_owns}
use Rattle.kept.specs.Bits.{object_keeps}
use Rattle.kept.specs.Subjects.{created_keeps}
use Rattle.frame.specs.Top.{controller_found}
use Rattle.route.specs.Parts.{held_by_own}
use Rattle.steps.specs.Accepted.{created, given}

-- ---- a walk that does not meet a subject

-- whoever owns nothing is above nobody
pub walk_apart : (S : State) (s a : ℕ) → s ≢ a → ((y : Name) → S.owns a y ≡ true → ⊥) → meets (walk S s (Subject a)) ≡ false
walk_apart S s a apart none =
    fails (meets (walk S s (Subject a)))
    (λ e. ⊎_elim (λ q. apart (sym (ap column_of q)))
    (λ p. let y = above_owns S.owns (Subject s) p.0 p.2 in
    none y.0 (subst (λ (b : ℕ). S.owns b y.0 ≡ true) (sym (ap column_of p.1)) y.1))
    (walk_found S s (Subject a) e))

-- nobody is above another that has the same owner
pub walk_beside : {S : State} → Valid S → (v s a : ℕ) → S.owns v (Subject s) ≡ true → S.owns v (Subject a) ≡ true → s ≢ a
    → meets (walk S s (Subject a)) ≡ false
walk_beside {S} h v s a under own apart =
    fails (meets (walk S s (Subject a)))
    (λ e. ⊎_elim (λ q. apart (sym (ap column_of q)))
    (λ p. above (subst (λ (b : ℕ). Above S.owns (Subject s) b) (sym (ap column_of p.1)) p.2))
    (walk_found S s (Subject a) e))
  where
    above : Above S.owns (Subject s) a → ⊥
    above (owner e) = h.no_cycle a (owner (subst (λ (b : ℕ). S.owns b (Subject a) ≡ true) (h.one_owner s v a under e) own))
    above (higher {w = w} e up) =
        h.no_cycle a (higher own (subst (λ (b : ℕ). Above S.owns (Subject b) a) (h.one_owner s w v e under) up))

-- ---- v created the name x

module _ (v : ℕ) where
  pub created_valid : {S : State} (x : Name) → Valid S → exists S v ≡ true → exists_name S x ≡ false → Valid (created v x S)
  created_valid {S} (Subject a) h ev absent = created_keeps S v a h ev absent
  created_valid {S} (Name.Plain a) h ev absent = object_keeps v (Name.Plain a) S refl h ev

  -- v owns x; what was owned still is; there is no other new owner
  pub created_owned : (x : Name) (S : State) → (created v x S).owns v x ≡ true
  created_owned (Subject a) S = put_new v (Subject a) S.owns
  created_owned (Name.Plain a) S = put_new v (Name.Plain a) S.owns

  pub created_owns : (x : Name) (S : State) (w : ℕ) (y : Name) → S.owns w y ≡ true → (created v x S).owns w y ≡ true
  created_owns (Subject a) S w y h = put_keeps v (Subject a) S.owns w y h
  created_owns (Name.Plain a) S w y h = put_keeps v (Name.Plain a) S.owns w y h

  pub created_owner : (x : Name) (S : State) (w : ℕ) (y : Name) → (created v x S).owns w y ≡ true → (S.owns w y ≡ true) ⊎ ((w ≡ v) × (y ≡ x))
  created_owner (Subject a) S w y h = put_found v (Subject a) true S.owns w y h
  created_owner (Name.Plain a) S w y h = put_found v (Name.Plain a) true S.owns w y h

  -- a new controller is x itself, over itself
  pub created_controller : (x : Name) (S : State) (w : ℕ) (y : Name) → (created v x S).controls w y ≡ true
      → (S.controls w y ≡ true) ⊎ ((Subject w ≡ x) × (y ≡ x))
  created_controller (Subject a) S w y h =
      ⊎_elim (λ old. inl old) (λ p. inr (ap (λ (n : ℕ). Subject n) p.0, p.1)) (put_found a (Subject a) true S.controls w y h)
  created_controller (Name.Plain a) S w y h = inl h

  -- the subjects that exist are those that did, and x
  pub created_exists : (x : Name) (S : State) (s : ℕ) → exists (created v x S) s ≡ (same_name (Subject s) x || exists S s)
  created_exists (Subject a) S s = either (eqb s a) (exists S s)
    where
      either : (t m : Bool) → cond (t && t) true m ≡ (t || m)
      either true m = refl
      either false m = refl
  created_exists (Name.Plain a) S s = refl

  -- over a name that was absent nobody else has control, and a subject that was absent owns nothing
  pub created_alone : {S : State} (x : Name) → Valid S → exists S v ≡ true → exists_name S x ≡ false → other_controller (created v x S) x ≡ false
  created_alone {S} x h ev absent =
      fails (other_controller (created v x S) x)
      (λ e. let w = (controller_found (created_valid x h ev absent) x).0 e in
      ⊎_elim (λ old. clash (h.column Control w.0 x old) absent) (λ p. w.2 p.0) (created_controller x S w.0 x w.1))

  pub created_bare : {S : State} (a : ℕ) → Valid S → exists S v ≡ true → exists S a ≡ false
      → (y : Name) → (created v (Subject a) S).owns a y ≡ true → ⊥
  created_bare {S} a h ev absent y e =
      ⊎_elim (λ old. clash (h.row Own a y old) absent) (λ p. clash (subst (λ (n : ℕ). exists S n ≡ true) (sym p.0) ev) absent)
      (created_owner (Subject a) S a y e)

-- ---- v destroyed subject a

abbrev pub destroyed : ℕ → ℕ → State → State
destroyed v a S = clear (in_cross a) (inherit v a S)

pub destroyed_absent : (v a : ℕ) (S : State) → exists (destroyed v a S) a ≡ false
destroyed_absent v a S = rw (eqb_same a) refl

pub destroyed_exists : (v a : ℕ) (S : State) (s : ℕ) → s ≢ a → exists (destroyed v a S) s ≡ exists S s
destroyed_exists v a S s apart = rw (ne_eqb s a apart) refl

-- ---- a right was given

-- a right whose bit is set is held
pub has_held : (S : State) (x : Right) (s : ℕ) (o : Name) → has S x s o ≡ true → held S x s o ≡ true
has_held S Own s o h = or_left false h
has_held S Control s o h = or_left false h
has_held S (Basic k Form.Plain) s o h = or_left (S.basic k Starred s o || (S.owns s o || false)) h
has_held S (Basic k Starred) s o h = or_left (S.owns s o || false) h

-- and so is one that own makes held, where s owns o
pub own_held : (S : State) (x : Right) (s : ℕ) (o : Name) → held_by_own x ≡ true → S.owns s o ≡ true → held S x s o ≡ true
own_held S Own s o e h = or_left false h
own_held S Control s o e h = absurd (clash e refl)
own_held S (Basic k Form.Plain) s o e h = or_right (S.basic k Form.Plain s o) (or_right (S.basic k Starred s o) (or_left false h))
own_held S (Basic k Starred) s o e h = or_right (S.basic k Starred s o) (or_left false h)

pub put_held : (x : Right) (s : ℕ) (o : Name) (S : State) → held (put x s o true S) x s o ≡ true
put_held x s o S =
    let same : is_bit x s o x s o ≡ true = and_both (same_right_refl x) (is_cell_same s o) in
    has_held (put x s o true S) x s o (has_put x s o true S x s o ∙ ap (λ (t : Bool). cond t true (has S x s o)) same)

pub given_held : (v s : ℕ) (o : Name) (x : Right) (S : State) → held (given v s o x S) x s o ≡ true
given_held v s (Subject o) Own S = put_held Own s (Subject o) (put Own v (Subject o) false S)
given_held v s (Name.Plain o) Own S = put_held Own s (Name.Plain o) S
given_held v s (Subject o) Control S = put_held Control s (Subject o) S
given_held v s (Name.Plain o) Control S = put_held Control s (Name.Plain o) S
given_held v s (Subject o) (Basic k g) S = put_held (Basic k g) s (Subject o) S
given_held v s (Name.Plain o) (Basic k g) S = put_held (Basic k g) s (Name.Plain o) S
