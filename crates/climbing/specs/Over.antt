-- The steps of the search for an owner whose way up meets an untrusted subject.
use Rattle.std.specs.Prelude.{ℕ, ◌*◌, ◌/◌, ◌≤◌, ◌<◌, ◌≡◌, refl, Bool, true, false, cond, ◌&&◌, eqb, ltb, [], List, Option, Some, None, is_some}
use Rattle.std.specs.List.{All}
use Rattle.std.proofs.Common.{arith, sym, ◌∙◌, ap, subst, ⊎_elim, lt-ltb, le-ltb, ltb-true, eqb-true}
use Rattle.std.proofs.lemmas.Bool.{eqb-false}
use Rattle.std.proofs.lemmas.List.Elements.{All-nil}
use Rattle.matrix.specs.declared.Name.{Name}
use Rattle.matrix.specs.declared.Name.TheVariants.{Subject, Plain}
use Rattle.matrix.specs.declared.Right.TheVariants.{Own}
use Rattle.matrix.specs.declared.Shape.{Shape}
use Rattle.matrix.specs.Bounded.{any, least}
use Rattle.matrix.specs.State.{State}
use Rattle.matrix.specs.Owners.{owner_of}
use Rattle.matrix.specs.Reading.{state_of}
use Rattle.laws.specs.Tests.{way, fails}
use Rattle.laws.specs.Bounded.{none_any, least_hit, least_none, least_passes}
use Rattle.row_search.specs.Blocks.{block_has, blocks_clear}
use Rattle.states.specs.Needs.{NameIn, Guessed}
use Rattle.states.specs.Reads.{top_is, read_bit, owner_guessed}
use Rattle.masks.specs.Lowest.{least_before, least_most}
use Rattle.route.specs.Rise.{Risen, meets_at, none, rises}
use Rattle.chain.specs.Rising.{rise_in}
use Rattle.ways.specs.Ways.{riser, risen_over}
use Rattle.rising.specs.declared.Met.{Met}
use Rattle.rising.specs.Rises.{risen_to}
use Rattle.rising.specs.Rising.{Within, rise_within}
use Rattle.climbing.specs.Climbs.{owner_rise}

pub some_rises : (r : Option Met) → rises (risen_to r) ≡ is_some r
some_rises (Some m) = refl
some_rises None = refl

module _ (S : State) (trusted : ℕ → Bool) (x : Name) where
  -- an owner is one whose way up as an owner meets somebody
  pub riser_rises : (w : ℕ) → riser S trusted x w ≡ rises (owner_rise S trusted x w)
  riser_rises w = by (S.owns w x) (rise_in S trusted S.top w [])
    where
      by : (t : Bool) (r : Risen) → (t && rises r) ≡ rises (cond t r none)
      by true r = refl
      by false r = refl

  not_owner : (w : ℕ) → S.owns w x ≡ false → riser S trusted x w ≡ false
  not_owner w own = rw own refl

  -- the first whose way up meets an untrusted subject
  pub over_first : {w : ℕ} → w < S.top → any w (riser S trusted x) ≡ false → rises (owner_rise S trusted x w) ≡ true
      → risen_over S trusted x ≡ owner_rise S trusted x w
  unfolding risen_over
  over_first {w} l before h =
      let first : least S.top (riser S trusted x) ≡ w = least_hit S.top (riser S trusted x) w l before (riser_rises w ∙ h) in
      rw (first, lt-ltb w S.top l) (by (S.owns w x) (rise_in S trusted S.top w []) h)
    where
      by : (t : Bool) (r : Risen) → rises (cond t r none) ≡ true → r ≡ cond t r none
      by true r e = refl
      by false r e = cc

  pub over_none : any S.top (riser S trusted x) ≡ false → risen_over S trusted x ≡ none
  unfolding risen_over
  over_none h = rw (least_none S.top (riser S trusted x) h, le-ltb S.top S.top (omega arith)) refl

  -- whom the way over x meets and passes are below `top`
  pub over_within : Within S.top (risen_over S trusted x)
  unfolding risen_over
  over_within = by (ltb (least S.top (riser S trusted x)) S.top) refl
    where
      by : (t : Bool) → ltb (least S.top (riser S trusted x)) S.top ≡ t → Within S.top (cond t (rise_in S trusted S.top (least S.top (riser S trusted x)) []) none)
      by true e = rise_within S.top S.owns trusted S.top (least S.top (riser S trusted x)) [] (ltb-true (least S.top (riser S trusted x)) S.top e) (All-nil (λ (u : ℕ). u < S.top))
      by false e = tt

  pub met_within : {n : ℕ} {m : Met} → S.top ≡ n → risen_over S trusted x ≡ risen_to (Some m) → (m.subject < n) × All (λ (w : ℕ). w < n) m.passed
  met_within {m = m} top e = subst (λ (n : ℕ). Within n (risen_to (Some m))) top (subst (Within S.top) e over_within)

-- ---- a plain object

-- nobody below the rows of the first block with an owner of o owns it
pub unowned : {b : List ℕ} {f : Shape} {o q : ℕ} (trusted : ℕ → Bool) → NameIn b f (Plain o) → q ≡ least (f.n / 4) (block_has b o 0)
    → any (4 * q) (riser (state_of b) trusted (Plain o)) ≡ false
unowned {b} {f} {o} {q} trusted h e = none_any (4 * q) (riser (state_of b) trusted (Plain o)) (λ j l. not_owner (state_of b) trusted (Plain o) j (each j l))
  where
    clear : any q (block_has b o 0) ≡ false
    clear = subst (λ (m : ℕ). any m (block_has b o 0) ≡ false) (sym e) (least_before (f.n / 4) (block_has b o 0))

    each : (j : ℕ) → j < 4 * q → (state_of b).owns j (Plain o) ≡ false
    each j l =
        read_bit b f h.station Own j (Plain o) tt (omega (arith, least_most (f.n / 4) (block_has b o 0))) h.column
        ∙ blocks_clear b o 0 q clear j l

-- ---- a subject, which has one owner in a valid record

module _ {b owners : List ℕ} {f : Shape} (h : Guessed b f owners) (v : ℕ) {w : ℕ} (e : w ≡ owner_of (state_of b).top (state_of b).owns v) (trusted : ℕ → Bool) where
  abbrev S : State
  S = state_of b

  others_not : (j : ℕ) → (j ≡ w → ⊥) → riser S trusted (Subject v) j ≡ false
  others_not j ne = not_owner S trusted (Subject v) j (fails (S.owns j (Subject v)) (λ o. ne (owner_guessed v h refl o ∙ sym e)))

  pub subject_lost : f.n ≤ w → risen_over S trusted (Subject v) ≡ none
  subject_lost l =
      let top : S.top ≡ f.n = top_is b f h.station in
      over_none S trusted (Subject v) (none_any S.top (riser S trusted (Subject v)) (λ j k. others_not j (λ q. omega arith)))

  pub subject_rises : w < f.n → risen_over S trusted (Subject v) ≡ rise_in S trusted S.top w []
  subject_rises l = by (rises (rise_in S trusted S.top w [])) refl
    where
      top : S.top ≡ f.n
      top = top_is b f h.station

      own : S.owns w (Subject v) ≡ true
      own =
          subst (λ (i : ℕ). S.owns i (Subject v) ≡ true) (sym e) (least_passes S.top (λ i. S.owns i (Subject v)) (omega (arith, top, e, l)))

      same : owner_rise S trusted (Subject v) w ≡ rise_in S trusted S.top w []
      same = rw own refl

      none_rises : (r : Risen) → rises r ≡ false → none ≡ r
      none_rises none q = refl
      none_rises (meets_at u ws) q = cc

      by : (t : Bool) → rises (rise_in S trusted S.top w []) ≡ t → risen_over S trusted (Subject v) ≡ rise_in S trusted S.top w []
      by true q =
          over_first S trusted (Subject v) (omega (arith, top, l)) (none_any w (riser S trusted (Subject v)) (λ j i. others_not j (λ q. omega arith))) (ap rises same ∙ q)
          ∙ same
      by false q =
          over_none S trusted (Subject v) (none_any S.top (riser S trusted (Subject v)) (λ j i. ⊎_elim
          (λ (t : eqb j w ≡ true). subst (λ (i : ℕ). riser S trusted (Subject v) i ≡ false) (sym (eqb-true j w t)) (riser_rises S trusted (Subject v) w ∙ ap rises same ∙ q))
          (λ (t : eqb j w ≡ false). others_not j (eqb-false j w t)) (way (eqb j w))))
          ∙ none_rises (rise_in S trusted S.top w []) q
