-- Valid is kept by a transfer of own: i, who owns o, hands it to s. No name vanishes by it.
use Rattle.std.specs.Prelude.{ℕ, ◌<◌, ◌≡◌, refl, ◌≢◌, ◌⊎◌, true, false, ◌&&◌}
use Rattle.std.proofs.Common.{sym, ap, subst, inl, inr, ⊎_elim}
use Rattle.std.proofs.lemmas.Bool.{false≢true}
use Rattle.matrix.specs.declared.Name.{Name}
use Rattle.matrix.specs.declared.Name.TheVariants.{Subject, Plain}
use Rattle.matrix.specs.declared.Right.{Right}
use Rattle.matrix.specs.declared.Right.TheVariants.{Own}
use Rattle.matrix.specs.Names.{is_subject, column_of}
use Rattle.matrix.specs.State.{State, has, exists, exists_name, is_cell, put}
use Rattle.matrix.specs.Owners.{walk, meets}
use Rattle.matrix.specs.Valid.{Valid}
use Rattle.laws.specs.Tests.{way, clash}
use Rattle.laws.specs.Same.{is_cell_same, is_cell_at, is_cell_row, is_cell_column, is_cell_apart}
use Rattle.laws.specs.Changed.{put_bit}
use Rattle.owners.specs.Walk.{walk_self}
use Rattle.owners.proofs.Walk.{walk_finds}
use Rattle.kept.specs.Cells.{put_cases, put_other, put_keeps}
use Rattle.kept.specs.Parts.{Lives, AllLive, Reowned, Up, join, controllers_of, tree_of, grown, lives_at, tree_fewer, tree_reowned, reowned_owned, not_root}
use Rattle.kept.specs.Bits.{object_kept}
use Rattle.kept.specs.Transferred.{handed}

-- s owns it then
handed_owned : (i s : ℕ) (o : Name) (S : State) → (handed S i s o).owns s o ≡ true
handed_owned i s o S = rw (is_cell_same s o) refl

-- Where o is a subject, s is its one owner now, which has not o above it.
module _ (S : State) (i s : ℕ) (h : Valid S) (es : exists S s ≡ true) (a : ℕ) (own : S.owns i (Subject a) ≡ true) (unmet : meets (walk S s (Subject a)) ≡ false) where
  abbrev S' : State
  S' = handed S i s (Subject a)

  abbrev without : State
  without = put Own i (Subject a) false S

  -- the only owner before was i
  old_link : (w c : ℕ) → without.owns w (Subject c) ≡ true → (S.owns w (Subject c) ≡ true) × (c ≢ a)
  old_link w c e =
      ⊎_elim (λ p. absurd (false≢true p.1))
      (λ p. (
        p.1,
        λ q. clash (is_cell_at i (Subject a) w (Subject c)
            (h.one_owner a w i (subst (λ (n : ℕ). S.owns w (Subject n) ≡ true) q p.1) own)
            (ap (λ (n : ℕ). Subject n) q)) p.0,
      ))
      (put_cases i (Subject a) false S.owns w (Subject c) e)

  same_cell : (w c : ℕ) → is_cell s (Subject a) w (Subject c) ≡ true → (w ≡ s) × (c ≡ a)
  same_cell w c e = (is_cell_row s (Subject a) w (Subject c) e, ap column_of (is_cell_column s (Subject a) w (Subject c) e))

  reowned : Reowned S.owns S'.owns s a
  reowned =
      record {
        links = λ w c e. ⊎_elim (λ p. inr (same_cell w c p.0)) (λ p. inl (old_link w c p.1))
            (put_cases s (Subject a) true without.owns w (Subject c) e);
        stays = λ w c d e. put_keeps s (Subject a) without.owns w (Subject c)
            (put_other i (Subject a) false S.owns w (Subject c) (is_cell_apart i (Subject a) w (Subject c)
            (λ q. d (ap column_of q))) e);
        gained = handed_owned i s (Subject a) S;
      }

  below : Up S.owns s a → ⊥
  below u =
      ⊎_elim (λ e. clash (subst (λ (n : ℕ). meets (walk S s (Subject n)) ≡ true) e (ap meets (walk_self S h s))) unmet)
      (λ up. clash (walk_finds S h s a es up) unmet) u

-- Every name that existed still exists: where i was the last owner of a plain object, s owns it now.
pub handed_lasts : (i s : ℕ) (o : Name) (S : State) → s < S.top → (x : Name) → exists_name S x ≡ true → exists_name (handed S i s o) x ≡ true
handed_lasts i s o S room (Subject d) e = e
handed_lasts i s o S room (Plain d) e = object_kept S (handed S i s o) d heir e
  where
    heir : (w : ℕ) → w < S.top → S.owns w (Plain d) ≡ true → (v : ℕ) × (v < S.top) × ((handed S i s o).owns v (Plain d) ≡ true)
    heir w l own =
        ⊎_elim (λ q. (s, room, subst (λ (x : Name). (handed S i s o).owns s x ≡ true) (sym (is_cell_column i o w (Plain d) q)) (handed_owned i s o S)))
        (λ q. (w, l, put_keeps s o (put Own i o false S).owns w (Plain d) (put_other i o false S.owns w (Plain d) q own)))
        (way (is_cell i o w (Plain d)))

module _ (S : State) (i s : ℕ) (h : Valid S) (es : exists S s ≡ true) where
  -- the set bits are old ones, or those of existing names
  handed_live : (o : Name) → S.owns i o ≡ true → AllLive (handed S i s o)
  handed_live o own = grown S (handed S i s o) h (λ w e. e) names bits
    where
      names : (x : Name) → exists_name S x ≡ true → exists_name (handed S i s o) x ≡ true
      names = handed_lasts i s o S (h.bound s es)

      there : exists_name (handed S i s o) o ≡ true
      there = names o (h.column Own i o own)

      bits : (y : Right) (w : ℕ) (x : Name) → has (handed S i s o) y w x ≡ true → (has S y w x ≡ true) ⊎ Lives (handed S i s o) w x
      bits y w x b =
          ⊎_elim (λ b₁. ⊎_elim (λ old. inl old) (λ p. inr (lives_at (handed S i s o) i o (h.row Own i o own) there w x (p.1, p.2)))
          (put_bit Own i o false S y w x b₁))
          (λ p. inr (lives_at (handed S i s o) s o es there w x (p.1, p.2))) (put_bit Own s o true (put Own i o false S) y w x b)

  -- the owners of subjects: where o is a plain object they are as they were
  object_handed : (a : ℕ) → S.owns i (Plain a) ≡ true → Valid (handed S i s (Plain a))
  object_handed a own =
      join (handed S i s (Plain a))
      (record {
        live = handed_live (Plain a) own;
        controllers = controllers_of S h;
        tree = tree_fewer S.owns (handed S i s (Plain a)).owns (tree_of S h) (λ w c e. e);
        owned = h.owned;
        bound = h.bound;
      })

  subject_handed : (a : ℕ) → S.owns i (Subject a) ≡ true → meets (walk S s (Subject a)) ≡ false → Valid (handed S i s (Subject a))
  subject_handed a own unmet =
      let r = reowned S i s h es a own unmet in
      join (handed S i s (Subject a))
      (record {
        live = handed_live (Subject a) own;
        controllers = controllers_of S h;
        tree = tree_reowned S.owns (handed S i s (Subject a)).owns s a (tree_of S h) r (not_root S h i a own) (below S i s h es a own unmet);
        owned = λ c cu e. reowned_owned S.owns (handed S i s (Subject a)).owns s a r c (λ _. h.owned c cu e);
        bound = h.bound;
      })

-- i owned o, and s has not o above it where o is a subject
pub transfer_keeps : (S : State) (i s : ℕ) (o : Name) → Valid S → exists S s ≡ true → S.owns i o ≡ true
    → (is_subject o && meets (walk S s o)) ≡ false → Valid (handed S i s o)
transfer_keeps S i s (Plain a) h es own unmet = object_handed S i s h es a own
transfer_keeps S i s (Subject a) h es own unmet = subject_handed S i s h es a own unmet
