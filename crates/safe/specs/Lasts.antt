-- Which names an accepted command may take away: only such as its initiator owns.
use Rattle.std.specs.Prelude.{ℕ, ◌<◌, ◌≡◌, refl, ◌⊎◌, true, false, ◌&&◌, eqb}
use Rattle.std.proofs.Common.{arith, sym, subst, inl, inr, ⊎_elim, eqb-true}
use Rattle.std.proofs.lemmas.Bool.{false≢true}
use Rattle.matrix.specs.declared.Name.{Name}
use Rattle.matrix.specs.declared.Name.TheVariants.{Subject, Plain}
use Rattle.matrix.specs.declared.Right.TheVariants.{Own, Control, Basic}
use Rattle.matrix.specs.declared.Act.{Act}
use Rattle.matrix.specs.declared.Act.TheVariants.{Transfer, Grant, Delete, CreateObject, DestroyObject, CreateSubject, DestroySubject}
use Rattle.matrix.specs.declared.Command.{Command}
use Rattle.matrix.specs.Names.{same_name}
use Rattle.matrix.specs.State.{State, exists, exists_name, put, clear}
use Rattle.matrix.specs.Owners.{owner}
use Rattle.matrix.specs.Changes.{change, admit, inherit, in_column, in_cross}
use Rattle.matrix.specs.Valid.{Valid}
use Rattle.laws.specs.Tests.{way, fails, and_left, and_both, or_left, or_right}
use Rattle.laws.specs.Same.{eqb_same, same_name_eq}
use Rattle.kept.specs.Allowed.{Allowed}
use Rattle.kept.specs.Cells.{put_keeps, clear_other}
use Rattle.kept.specs.Bits.{object_kept}
use Rattle.kept.proofs.Transferred.{handed_lasts}

-- a name that exists is still there when a bit of own or control is set (a transfer of own: `handed_lasts`)
own_lasts : (r : ℕ) (c : Name) (S : State) (x : Name) → exists_name S x ≡ true → exists_name (put Own r c true S) x ≡ true
own_lasts r c S (Subject d) e = e
own_lasts r c S (Plain d) e = object_kept S (put Own r c true S) d (λ w l o. (w, l, put_keeps r c S.owns w (Plain d) o)) e

control_lasts : (r : ℕ) (c : Name) (S : State) (x : Name) → exists_name S x ≡ true → exists_name (put Control r c true S) x ≡ true
control_lasts r c S (Subject d) e = put_keeps r c S.controls d (Subject d) e
control_lasts r c S (Plain d) e = e

admit_lasts : (s : ℕ) (S : State) (x : Name) → exists_name S x ≡ true → exists_name (admit s S) x ≡ true
admit_lasts s S (Subject d) e = e
admit_lasts s S (Plain d) e = object_kept S (admit s S) d (λ w l o. (w, omega arith, o)) e

-- when the column of another name is cleared
column_lasts : (c : Name) (S : State) (x : Name) → same_name x c ≡ false → exists_name S x ≡ true → exists_name (clear (in_column c) S) x ≡ true
column_lasts c S (Subject d) q e = clear_other (in_column c) S.controls d (Subject d) q e
column_lasts c S (Plain d) q e =
    object_kept S (clear (in_column c) S) d (λ w l o. (w, l, clear_other (in_column c) S.owns w (Plain d) q o)) e

-- when i destroys another subject c than itself
cross_lasts : (i c : ℕ) (S : State) → i < S.top → eqb i c ≡ false → (x : Name) → same_name x (Subject c) ≡ false → exists_name S x ≡ true
    → exists_name (clear (in_cross c) (inherit i c S)) x ≡ true
cross_lasts i c S room other (Subject d) q e = clear_other (in_cross c) S.controls d (Subject d) (rw q refl) e
cross_lasts i c S room other (Plain d) q e = object_kept S S' d heir e
  where
    handing : State
    handing = inherit i c S

    S' : State
    S' = clear (in_cross c) handing

    heir : (w : ℕ) → w < S.top → S.owns w (Plain d) ≡ true → (v : ℕ) × (v < S.top) × (S'.owns v (Plain d) ≡ true)
    heir w l o =
        ⊎_elim (λ a. (
          i,
          room,
          clear_other (in_cross c) handing.owns i (Plain d) other
              (or_right (S.owns i (Plain d)) (and_both (eqb_same i) (subst (λ (n : ℕ). S.owns n (Plain d) ≡ true) (eqb-true w c a) o))),
        ))
        (λ a. (w, l, clear_other (in_cross c) handing.owns w (Plain d) a (or_left (eqb w i && S.owns c (Plain d)) o))) (way (eqb w c))

-- A name that exists still exists after an accepted command, or the initiator owned it.
pub lasts : (S : State) (c : Command) (a : Act) → Valid S → Allowed S c a → (x : Name) → exists_name S x ≡ true
    → (exists_name (change S c a) x ≡ true) ⊎ (S.owns c.i x ≡ true)
lasts S c (Transfer Own) v p x e =
    inl (handed_lasts c.i c.s c.o S (v.bound c.s (and_left (exists S c.s) (exists_name S c.o) p.there)) x e)
lasts S c (Transfer Control) v p x e = inl e
lasts S c (Transfer (Basic k f)) v p x e = inl e
lasts S c (Grant Own) v p x e = inl (own_lasts c.s c.o S x e)
lasts S c (Grant Control) v p x e = inl (control_lasts c.s c.o S x e)
lasts S c (Grant (Basic k f)) v p x e = inl e
lasts S c (Delete Own) v p x e = absurd (false≢true p.entitled)
lasts S c (Delete Control) v p x e = absurd (false≢true p.entitled)
lasts S c (Delete (Basic k f)) v p x e = inl e
lasts S c CreateObject v p x e = inl (own_lasts c.i c.o S x e)
lasts S c DestroyObject v p x e =
    ⊎_elim (λ q. inr (subst (λ (n : Name). S.owns c.i n ≡ true) (sym (same_name_eq x c.o q)) p.entitled))
    (λ q. inl (column_lasts c.o S x q e)) (way (same_name x c.o))
lasts S c CreateSubject v p x e =
    inl (control_lasts c.s (Subject c.s) (put Own c.i (Subject c.s) true (admit c.s S)) x
    (own_lasts c.i (Subject c.s) (admit c.s S) x (admit_lasts c.s S x e)))
lasts S c DestroySubject v p x e =
    ⊎_elim (λ q. inr (subst (λ (n : Name). S.owns c.i n ≡ true) (sym (same_name_eq x (Subject c.s) q)) p.entitled))
    (λ q. inl (cross_lasts c.i c.s S (v.bound c.i p.initiator) other x q e)) (way (same_name x (Subject c.s)))
  where
    other : eqb c.i c.s ≡ false
    other =
        fails (eqb c.i c.s) (λ q. v.no_cycle c.s
        (owner (subst (λ (n : ℕ). S.owns n (Subject c.s) ≡ true) (eqb-true c.i c.s q) p.entitled)))
