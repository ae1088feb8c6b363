-- Valid is kept by the creation and the destruction of a subject.
use Rattle.std.specs.Prelude.{ℕ, ◌≡◌, ◌≢◌, ◌⊎◌, true, false, ◌&&◌, eqb}
use Rattle.std.proofs.Common.{sym, ◌∙◌, ap, subst, inl, inr, ⊎_elim, eqb-true}
use Rattle.std.proofs.lemmas.Bool.{eqb-false}
use Rattle.matrix.specs.declared.Name.{Name}
use Rattle.matrix.specs.declared.Name.TheVariants.{Subject, Plain}
use Rattle.matrix.specs.declared.Right.TheVariants.{Own}
use Rattle.matrix.specs.Names.{U, same_name, column_of}
use Rattle.matrix.specs.State.{State, exists, exists_name}
use Rattle.matrix.specs.Owners.{owner}
use Rattle.matrix.specs.Changes.{inherit, in_cross}
use Rattle.matrix.specs.Valid.{Valid}
use Rattle.laws.specs.Tests.{way, clash, fails, and_both, or_cases, or_left, or_right, or_none_left, or_none_right}
use Rattle.laws.specs.Same.{eqb_same, same_name_eq}
use Rattle.laws.specs.Changed.{clear_bit, inherit_bit}
use Rattle.kept.specs.Cells.{clear_found, clear_other}
use Rattle.kept.specs.Parts.{four_cases, AllLive, join, controllers_of, controllers_fewer, above_heir, not_root}
use Rattle.kept.specs.Bits.{object_kept}
use Rattle.kept.specs.Subjects.{destroyed}

-- i owned c
pub destroyed_keeps : (S : State) (i c : ℕ) → Valid S → exists S i ≡ true → S.owns i (Subject c) ≡ true → Valid (destroyed S i c)
destroyed_keeps S i c h ei own =
    join S'
    (record {
      live = live;
      controllers = controllers_fewer S.controls S'.controls (controllers_of S h)
          (λ w x e. (clear_found (in_cross c) S.controls w x e).1) (rows U (λ e. not_root S h i c own (sym e)) h.root);
      tree =
          record {
            root_owner = λ w. fails (S'.owns w (Subject U)) (λ e. let o = owned_before U (w, e) in clash o.1 (h.root_owner o.0));
            one_owner = one;
            no_cycle = λ a up. h.no_cycle a (above_heir S.owns S'.owns i c own (λ w d e. (links w (Subject d) e).1) a a up);
          };
      owned = λ d du e. let w = h.owned d du (before d e).1 in let v = heir (Subject d)
          (λ q. (before d e).0 (ap column_of q)) w.0 w.1 in (v.0, v.1);
      bound = λ d e. h.bound d (before d e).1;
    })
  where
    S' : State
    S' = destroyed S i c

    i≢c : i ≢ c
    i≢c e = h.no_cycle c (owner (subst (λ (n : ℕ). S.owns n (Subject c) ≡ true) e own))

    outside : (w : ℕ) (x : Name) → w ≢ c → x ≢ Subject c → in_cross c w x ≡ false
    outside w x d q = fails (in_cross c w x) (λ e. ⊎_elim (λ a. q (same_name_eq x (Subject c) a)) (λ b. d (eqb-true w c b))
        (or_cases (same_name x (Subject c)) (eqb w c) e))

    off_row : (w : ℕ) (x : Name) → in_cross c w x ≡ false → w ≢ c
    off_row w x e = eqb-false w c (or_none_right (same_name x (Subject c)) (eqb w c) e)

    off_column : (w : ℕ) (x : Name) → in_cross c w x ≡ false → x ≢ Subject c
    off_column w x e q = clash (subst (λ (n : Name). same_name n (Subject c) ≡ true) (sym q) (eqb_same c))
        (or_none_left (same_name x (Subject c)) (eqb w c) e)

    rows : (w : ℕ) → w ≢ c → exists S w ≡ true → exists S' w ≡ true
    rows w d e = clear_other (in_cross c) S.controls w (Subject w) (outside w (Subject w) d (λ q. d (ap column_of q))) e

    before : (d : ℕ) → exists S' d ≡ true → (d ≢ c) × (exists S d ≡ true)
    before d e = let p = clear_found (in_cross c) S.controls d (Subject d) e in (off_row d (Subject d) p.0, p.1)

    -- whoever owned a name that stays has an heir
    heir : (x : Name) → x ≢ Subject c → (w : ℕ) → S.owns w x ≡ true → (v : ℕ) × (S'.owns v x ≡ true) × (exists S v ≡ true)
    heir x q w e =
        ⊎_elim (λ a. (
          i,
          clear_other (in_cross c) (inherit i c S).owns i x (outside i x i≢c q)
              (or_right (S.owns i x) (and_both (eqb_same i) (subst (λ (n : ℕ). S.owns n x ≡ true) (eqb-true w c a) e))),
          ei,
        ))
        (λ a. (
          w,
          clear_other (in_cross c) (inherit i c S).owns w x (outside w x (eqb-false w c a) q)
              (or_left (eqb w i && S.owns c x) e),
          h.row Own w x e,
        )) (way (eqb w c))

    names : (x : Name) → x ≢ Subject c → exists_name S x ≡ true → exists_name S' x ≡ true
    names (Subject d) q e = rows d (λ a. q (ap (λ (n : ℕ). Subject n) a)) e
    names (Plain d) q e = object_kept S S' d (λ w l o. let v = heir (Plain d) q w o in (v.0, h.bound v.0 v.2, v.1)) e

    live : AllLive S'
    live y w x b =
        let p = clear_bit (in_cross c) (inherit i c S) y w x b in
        let r = off_row w x p.0 in
        let q = off_column w x p.0 in
        ⊎_elim (λ old. (rows w r (h.row y w x old), names x q (h.column y w x old)))
        (λ k. (rows w r (subst (λ (n : ℕ). exists S n ≡ true) (sym k.1) ei), names x q (h.column Own c x k.2)))
        (inherit_bit i c S y w x p.1)

    links : (w : ℕ) (x : Name) → S'.owns w x ≡ true → (w ≢ c) × ((S.owns w x ≡ true) ⊎ ((w ≡ i) × (S.owns c x ≡ true)))
    links w x e = let p = clear_found (in_cross c) (inherit i c S).owns w x e in (
      off_row w x p.0,
      ⊎_elim (λ old. inl old) (λ k. inr (k.1, k.2)) (inherit_bit i c S Own w x p.1),
    )

    owned_before : (d : ℕ) → (w : ℕ) × (S'.owns w (Subject d) ≡ true) → (v : ℕ) × (S.owns v (Subject d) ≡ true)
    owned_before d e = ⊎_elim (λ old. (e.0, old)) (λ k. (c, k.1)) (links e.0 (Subject d) e.1).1

    one : (d w v : ℕ) → S'.owns w (Subject d) ≡ true → S'.owns v (Subject d) ≡ true → w ≡ v
    one d w v e g =
        let p = links w (Subject d) e in
        let q = links v (Subject d) g in
        four_cases (λ a b. h.one_owner d w v a b) (λ a b. absurd (p.0 (h.one_owner d w c a b.1)))
        (λ a b. absurd (q.0 (h.one_owner d v c b a.1))) (λ a b. a.0 ∙ sym b.0) p.1 q.1
