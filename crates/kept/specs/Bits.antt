-- Valid is kept by the commands that change bits over names that keep their owners: basic rights, control, and owners and
-- destruction of plain objects.
use Rattle.std.specs.Prelude.{ℕ, ◌<◌, ◌≡◌, refl, ◌≢◌, Bool, true, false, not, ◌&&◌}
use Rattle.std.proofs.Common.{sym, ap, subst, inl, inr, ⊎_elim}
use Rattle.std.proofs.lemmas.Bool.{false≢true}
use Rattle.matrix.specs.declared.Name.{Name}
use Rattle.matrix.specs.declared.Name.TheVariants.{Subject, Plain}
use Rattle.matrix.specs.declared.Form.{Form}
use Rattle.matrix.specs.declared.Right.{Right}
use Rattle.matrix.specs.declared.Right.TheVariants.{Own, Control, Basic}
use Rattle.matrix.specs.declared.Kind.TheVariants.{SubjectName, PlainName}
use Rattle.matrix.specs.Names.{U, same_name, column_of}
use Rattle.matrix.specs.State.{State, exists, exists_name, put, clear}
use Rattle.matrix.specs.Changes.{in_column}
use Rattle.matrix.specs.Tests.{kind_fits, other_controller}
use Rattle.matrix.specs.Valid.{Valid}
use Rattle.laws.specs.Tests.{clash, and_left, and_right, and_both}
use Rattle.laws.specs.Same.{same_name_ne}
use Rattle.laws.specs.Bounded.{any_hit, any_found, any_none}
use Rattle.laws.specs.Changed.{put_bit, clear_bit}
use Rattle.kept.specs.Cells.{put_found, put_new, put_keeps, clear_found, clear_other}
use Rattle.kept.specs.Parts.{Lives, AllLive, join, controllers_of, tree_of, grown, lives_at, controllers_fewer, controllers_put, tree_fewer}

-- where one row owns a plain object, it exists
pub object_owned : (S : State) (w o : ℕ) → w < S.top → S.owns w (Plain o) ≡ true → exists_name S (Plain o) ≡ true
object_owned S w o l h = any_hit S.top (λ v. S.owns v (Plain o)) w l h

-- and where each row that owned it left it an owner, it still exists
pub object_kept : (S S' : State) (o : ℕ)
    → ((w : ℕ) → w < S.top → S.owns w (Plain o) ≡ true → (v : ℕ) × (v < S'.top) × (S'.owns v (Plain o) ≡ true))
    → exists_name S (Plain o) ≡ true → exists_name S' (Plain o) ≡ true
object_kept S S' o heir e =
    let w = any_found S.top (λ v. S.owns v (Plain o)) e in
    let v = heir w.0 w.1 w.2 in
    object_owned S' v.0 o v.1 v.2

-- the set bits after one bit over existing names is put
put_live : (y : Right) (r : ℕ) (c : Name) (v : Bool) (S : State) → Valid S
    → ((w : ℕ) → exists S w ≡ true → exists (put y r c v S) w ≡ true)
    → ((x : Name) → exists_name S x ≡ true → exists_name (put y r c v S) x ≡ true) → Lives (put y r c v S) r c
    → AllLive (put y r c v S)
put_live y r c v S h rows names l =
    grown S (put y r c v S) h rows names
    (λ z w x b. ⊎_elim (λ old. inl old) (λ p. inr (lives_at (put y r c v S) r c l.0 l.1 w x (p.1, p.2))) (put_bit y r c v S z w x b))

pub basic_keeps : (k : ℕ) (f : Form) (r : ℕ) (c : Name) (v : Bool) (S : State) → Valid S
    → (exists S r && exists_name S c) ≡ true → Valid (put (Basic k f) r c v S)
basic_keeps k f r c v S h there =
    join (put (Basic k f) r c v S)
    (record {
      live = put_live (Basic k f) r c v S h (λ w e. e) (λ x e. e)
          (and_left (exists S r) (exists_name S c) there, and_right (exists S r) (exists_name S c) there);
      controllers = controllers_of S h;
      tree = tree_of S h;
      owned = h.owned;
      bound = h.bound;
    })

-- r becomes an owner of a plain object, which need not exist yet
pub object_keeps : (r : ℕ) (o : Name) (S : State) → kind_fits PlainName o ≡ true → Valid S → exists S r ≡ true → Valid (put Own r o true S)
object_keeps r (Subject a) S fit h er = absurd (false≢true fit)
object_keeps r (Plain a) S fit h er =
    join S'
    (record {
      live = put_live Own r (Plain a) true S h (λ w e. e) names (er, object_owned S' r a (h.bound r er) (put_new r (Plain a) S.owns));
      controllers = controllers_of S h;
      tree = tree_fewer S.owns S'.owns (tree_of S h) (λ w c e. e);
      owned = h.owned;
      bound = h.bound;
    })
  where
    S' : State
    S' = put Own r (Plain a) true S

    names : (x : Name) → exists_name S x ≡ true → exists_name S' x ≡ true
    names (Subject c) e = e
    names (Plain c) e = object_kept S S' c (λ w l o. (w, l, put_keeps r (Plain a) S.owns w (Plain c) o)) e

-- r gains control over a subject that is not U and that no other controls
pub control_keeps : (r : ℕ) (o : Name) (S : State) → kind_fits SubjectName o ≡ true → Valid S
    → (exists S r && exists_name S o) ≡ true → o ≢ Subject U → other_controller S o ≡ false → Valid (put Control r o true S)
control_keeps r (Plain a) S fit h there nu alone = absurd (false≢true fit)
control_keeps r (Subject a) S fit h there nu alone =
    join S'
    (record {
      live = put_live Control r (Subject a) true S h rows names
          (rows r (and_left (exists S r) (exists S a) there), rows a (and_right (exists S r) (exists S a) there));
      controllers = controllers_put S.controls r a (controllers_of S h) (λ e. absurd (nu (ap (λ (n : ℕ). Subject n) e)))
          (λ _ w c d. clash (and_both c (apart w d)) (any_none S.top _ w alone
          (h.bound w (h.row Control w (Subject a) c))));
      tree = tree_of S h;
      owned = λ s su e. h.owned s su (before s e);
      bound = λ s e. h.bound s (before s e);
    })
  where
    S' : State
    S' = put Control r (Subject a) true S

    rows : (w : ℕ) → exists S w ≡ true → exists S' w ≡ true
    rows w e = put_keeps r (Subject a) S.controls w (Subject w) e

    names : (x : Name) → exists_name S x ≡ true → exists_name S' x ≡ true
    names (Subject c) e = rows c e
    names (Plain c) e = e

    before : (w : ℕ) → exists S' w ≡ true → exists S w ≡ true
    before w e = ⊎_elim (λ b. b) (λ p. subst (λ (x : Name). exists_name S x ≡ true) (sym p.1)
        (and_right (exists S r) (exists S a) there)) (put_found r (Subject a) true S.controls w (Subject w) e)

    apart : (w : ℕ) → w ≢ a → not (same_name (Subject w) (Subject a)) ≡ true
    apart w d = rw (same_name_ne (Subject w) (Subject a) (λ e. d (ap column_of e))) refl

-- a plain object is destroyed
pub object_destroyed : (o : Name) (S : State) → kind_fits PlainName o ≡ true → Valid S → Valid (clear (in_column o) S)
object_destroyed (Subject a) S fit h = absurd (false≢true fit)
object_destroyed (Plain a) S fit h =
    join S'
    (record {
      live = λ y w x b. let c = clear_bit (in_column (Plain a)) S y w x b in (h.row y w x c.1, names x c.0 (h.column y w x c.1));
      controllers = controllers_fewer S.controls S'.controls (controllers_of S h)
          (λ w x e. (clear_found (in_column (Plain a)) S.controls w x e).1) h.root;
      tree = tree_fewer S.owns S'.owns (tree_of S h) (λ w c e. e);
      owned = h.owned;
      bound = h.bound;
    })
  where
    S' : State
    S' = clear (in_column (Plain a)) S

    names : (x : Name) → same_name x (Plain a) ≡ false → exists_name S x ≡ true → exists_name S' x ≡ true
    names (Subject c) d e = e
    names (Plain c) d e = object_kept S S' c (λ w l o. (w, l, clear_other (in_column (Plain a)) S.owns w (Plain c) d o)) e
