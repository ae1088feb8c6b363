-- Valid is kept by the creation and the destruction of a subject.
use Rattle.std.specs.Prelude.{ℕ, ◌<◌, ◌≡◌, refl, ◌≢◌, ◌⊎◌, true, false}
use Rattle.std.proofs.Common.{arith, sym, ◌∙◌, ap, subst, inl, inr, ⊎_elim}
use Rattle.matrix.specs.declared.Name.{Name}
use Rattle.matrix.specs.declared.Name.TheVariants.{Subject, Plain}
use Rattle.matrix.specs.declared.Right.{Right}
use Rattle.matrix.specs.declared.Right.TheVariants.{Own, Control}
use Rattle.matrix.specs.Names.{column_of}
use Rattle.matrix.specs.State.{State, has, exists, exists_name, put, clear}
use Rattle.matrix.specs.Changes.{admit, inherit, in_cross}
use Rattle.matrix.specs.Valid.{Valid}
use Rattle.laws.specs.Tests.{clash}
use Rattle.laws.specs.Changed.{put_bit, has_admit}
use Rattle.kept.specs.Cells.{put_found, put_new, put_keeps}
use Rattle.kept.specs.Parts.{Lives, Reowned, Up, join, controllers_of, tree_of, grown, lives_at, controllers_put, tree_reowned, reowned_owned, above_owns}
use Rattle.kept.specs.Bits.{object_kept}

-- The two changes: i creates s; i destroys c.
abbrev created : State → ℕ → ℕ → State
created S i s = put Control s (Subject s) true (put Own i (Subject s) true (admit s S))

abbrev pub destroyed : State → ℕ → ℕ → State
destroyed S i c = clear (in_cross c) (inherit i c S)

-- s was absent
pub created_keeps : (S : State) (i s : ℕ) → Valid S → exists S i ≡ true → exists S s ≡ false → Valid (created S i s)
created_keeps S i s h ei absent =
    join S'
    (record {
      live = grown S S' h rows names bits;
      controllers = controllers_put S.controls s s (controllers_of S h) (λ e. e) (λ d. absurd (d refl));
      tree = tree_reowned S.owns S'.owns i s (tree_of S h) reowned
          (λ e. clash h.root (subst (λ (n : ℕ). exists S n ≡ false) e absent)) below;
      owned = λ c cu e. reowned_owned S.owns S'.owns i s reowned c
          (λ d. h.owned c cu (⊎_elim (λ old. old) (λ q. absurd (d q)) (before c e)));
      bound = λ c e. ⊎_elim (λ old. let l : c < S.top = h.bound c old in omega arith) (λ q. omega arith) (before c e);
    })
  where
    owning : State
    owning = put Own i (Subject s) true (admit s S)

    S' : State
    S' = created S i s

    rows : (w : ℕ) → exists S w ≡ true → exists S' w ≡ true
    rows w e = put_keeps s (Subject s) S.controls w (Subject w) e

    names : (x : Name) → exists_name S x ≡ true → exists_name S' x ≡ true
    names (Subject c) e = rows c e
    names (Plain c) e = object_kept S S' c (λ w l o. (w, omega arith, o)) e

    here : exists S' s ≡ true
    here = put_new s (Subject s) S.controls

    bits : (y : Right) (w : ℕ) (x : Name) → has S' y w x ≡ true → (has S y w x ≡ true) ⊎ Lives S' w x
    bits y w x b =
        ⊎_elim (λ b₁. ⊎_elim (λ old. inl (sym (has_admit s S y w x) ∙ old)) (λ p. inr (lives_at S' i (Subject s) (rows i ei) here w x (p.1, p.2)))
        (put_bit Own i (Subject s) true (admit s S) y w x b₁))
        (λ p. inr (lives_at S' s (Subject s) here here w x (p.1, p.2))) (put_bit Control s (Subject s) true owning y w x b)

    before : (c : ℕ) → exists S' c ≡ true → (exists S c ≡ true) ⊎ (c ≡ s)
    before c e = ⊎_elim (λ old. inl old) (λ p. inr p.0) (put_found s (Subject s) true S.controls c (Subject c) e)

    unowned : (w c : ℕ) → S.owns w (Subject c) ≡ true → c ≢ s
    unowned w c e q = clash (subst (λ (n : ℕ). exists S n ≡ true) q (h.column Own w (Subject c) e)) absent

    reowned : Reowned S.owns S'.owns i s
    reowned =
        record {
          links = λ w c e. ⊎_elim (λ old. inl (old, unowned w c old)) (λ p. inr (p.0, ap column_of p.1))
              (put_found i (Subject s) true S.owns w (Subject c) e);
          stays = λ w c d e. put_keeps i (Subject s) S.owns w (Subject c) e;
          gained = put_new i (Subject s) S.owns;
        }

    -- s owns nothing yet
    below : Up S.owns i s → ⊥
    below u =
        ⊎_elim (λ e. clash (subst (λ (n : ℕ). exists S n ≡ true) e ei) absent)
        (λ up. let y = above_owns S.owns (Subject i) s up in clash (h.row Own s y.0 y.1) absent) u
