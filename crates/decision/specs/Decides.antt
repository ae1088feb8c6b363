-- The theorem: where there is no way the state is Safe, and else the way's list leaks.
use Prim.Native.Nat.{ℕ, ◌≤◌, ◌<◌}
use Rattle.std.proofs.Common.{arith, sym, subst}
use Rattle.std.specs.Prelude.{◌≡◌, refl, Bool, false, cond, not}
use Rattle.std.proofs.Math.Bool.{true}
use Rattle.std.proofs.lemmas.Bool.{false≢true}
use mathlib.Core.List.{List, []}
use Rattle.std.proofs.Math.Dec.{ltb}
use borrow.Author.Tests.{not-true, ltb-true, ltb-false}
use Rattle.matrix.specs.declared.Name.{Name}
use Rattle.matrix.specs.declared.Name.TheVariants.{Subject}
use Rattle.matrix.specs.declared.Form.TheVariants.{Starred}
use Rattle.matrix.specs.declared.Right.{Right}
use Rattle.matrix.specs.declared.Right.TheVariants.{Own, Basic}
use Rattle.matrix.specs.declared.Shape.{Shape}
use Rattle.matrix.specs.Bounded.{least}
use Rattle.matrix.specs.Names.{named}
use Rattle.matrix.specs.State.{State, held, exists, exists_name}
use Rattle.matrix.specs.Valid.{Valid}
use Rattle.matrix.specs.Shape.{basics_of}
use Rattle.matrix.specs.Shaped.{Within}
use Rattle.laws.specs.Tests.{clash, fails, holds, and_left, and_right, and_both}
use Rattle.laws.specs.Bounded.{least_passes, least_found}
use Rattle.frame.specs.Top.{row_below}
use Rattle.question.specs.Safe.{Safe}
use Rattle.question.specs.Leaks.{LeaksBy}
use Rattle.route.specs.Parts.{basic_number}
use Rattle.route.specs.Rise.{Risen, meets_at, none, rises}
use Rattle.safe.specs.Possible.{possible}
use Rattle.safe.specs.Conditions.{has_star, Starless, TrustedAbove}
use Rattle.safe.specs.Nobody.{nobody_safe}
use Rattle.safe.proofs.Impossible.{impossible_safe}
use Rattle.safe.proofs.Trusted.{guarded_safe}
use Rattle.finish.specs.Reaches.{reaches_none, reaches_leak}
use Rattle.chain.specs.Rising.{Met, rise_in}
use Rattle.chain.proofs.Rising.{none_above, rise_meets, met_until}
use Rattle.ways.specs.Ways.{Way, held_now, by_star, by_creation, from_above, no_way, star_holder, untrusted_in, riser, needed, way_up, risen_over, way_over, way_made, way_of, list_of}
use Rattle.decision.specs.Sought.{Sought}
use Rattle.decision.specs.Lists.{star_leaks, creation_leaks}
use Rattle.decision.specs.Above.{above_leaks}

-- what a way says of the question
abbrev pub Says : Shape → State → (ℕ → Bool) → ℕ → Name → Right → Way → Type 0
Says f S trusted s o x held_now = LeaksBy f S trusted s o x (list_of S s o x held_now)
Says f S trusted s o x (by_star i) = LeaksBy f S trusted s o x (list_of S s o x (by_star i))
Says f S trusted s o x (by_creation v) = LeaksBy f S trusted s o x (list_of S s o x (by_creation v))
Says f S trusted s o x (from_above v ws) = LeaksBy f S trusted s o x (list_of S s o x (from_above v ws))
Says f S trusted s o x no_way = Safe (basics_of f) S trusted s o x

-- a property of both branches, each with what its test says
either : {A : Type 0} (P : A → Type 0) (t : Bool) {w v : A} → (t ≡ true → P w) → (t ≡ false → P v) → P (cond t w v)
either P true f g = f refl
either P false f g = g refl

-- nothing passes below the bound where the search ends at it
none_below : (n : ℕ) (f : ℕ → Bool) → ltb (least n f) n ≡ false → (i : ℕ) → i < n → f i ≡ false
none_below n f h i l = fails (f i) (λ e. let a : least n f < n = least_found n f i l e in let b : n ≤ least n f = ltb-false (least n f) n h in omega arith)

not_risen : (r : Risen) → rises r ≡ false → r ≡ none
not_risen (meets_at v ws) h = absurd (clash refl h)
not_risen none h = refl

met_needed : {S : State} {trusted : ℕ → Bool} → Valid S → (o : Name) {v : ℕ} {ws : List ℕ} → Met S trusted o v ws → Met S trusted o v (needed S o ws)
met_needed valid (Subject a) m = m
met_needed valid (Name.Plain a) m = met_until valid m

module _ (f : Shape) (S : State) (trusted : ℕ → Bool) (s : ℕ) (o : Name) (x : Right) (valid : Valid S) (within : Within f S) (subject : s < f.n) (object : named f.n f.p o ≡ true) (right : basic_number x < basics_of f) where
  abbrev Here : Way → Type 0
  Here = Says f S trusted s o x

  module _ (unheld : held S x s o ≡ false) (reachable : possible s o x ≡ true) where
    sought : Sought f S s o x
    sought = record { valid = valid; within = within; subject = subject; object = object; right = right; reachable = reachable; unheld = unheld }

    by_stars : ltb (least S.top (star_holder S trusted o x)) S.top ≡ true → Here (by_star (least S.top (star_holder S trusted o x)))
    by_stars h =
        let i : ℕ = least S.top (star_holder S trusted o x) in
        let l : i < S.top = ltb-true i S.top h in
        let p : star_holder S trusted o x i ≡ true = least_passes S.top (star_holder S trusted o x) l in
        star_leaks f S trusted s o x i sought l (not-true (trusted i) (and_left (not (trusted i)) (has_star S x i o) p)) (and_right (not (trusted i)) (has_star S x i o) p)

    made : exists_name S o ≡ false → Here (way_made S trusted)
    unfolding way_made
    made gone = either Here (ltb (least S.top (untrusted_in S trusted)) S.top) created nobody
      where
        created : ltb (least S.top (untrusted_in S trusted)) S.top ≡ true → Here (by_creation (least S.top (untrusted_in S trusted)))
        created h =
            let v : ℕ = least S.top (untrusted_in S trusted) in
            let l : v < S.top = ltb-true v S.top h in
            let p : untrusted_in S trusted v ≡ true = least_passes S.top (untrusted_in S trusted) l in
            creation_leaks f S trusted s o x v sought l (and_left (exists S v) (not (trusted v)) p) (not-true (trusted v) (and_right (exists S v) (not (trusted v)) p)) gone

        nobody : ltb (least S.top (untrusted_in S trusted)) S.top ≡ false → Here no_way
        nobody h =
            nobody_safe (basics_of f) S trusted s o x unheld
            (λ v e. holds (trusted v) (λ t. clash (and_both e (rw t refl)) (none_below S.top (untrusted_in S trusted) h v (valid.bound v e))))

    over : exists_name S o ≡ true → ltb (least S.top (star_holder S trusted o x)) S.top ≡ false → Here (way_over S trusted o)
    unfolding risen_over
    over there starless = either (λ (r : Risen). Here (way_up S o r)) (ltb (least S.top (riser S trusted o)) S.top) up guarded
      where
        risen : (w : ℕ) (r : Risen) → rise_in S trusted S.top w [] ≡ r → S.owns w o ≡ true → rises r ≡ true → Here (way_up S o r)
        risen w (meets_at v ws) e own h =
            above_leaks f S trusted s o x v (needed S o ws) sought (met_needed valid o (rise_meets S valid trusted o w v ws own e))
        risen w none e own h = absurd (false≢true h)

        up : ltb (least S.top (riser S trusted o)) S.top ≡ true → Here (way_up S o (rise_in S trusted S.top (least S.top (riser S trusted o)) []))
        up h =
            let w : ℕ = least S.top (riser S trusted o) in
            let p : riser S trusted o w ≡ true = least_passes S.top (riser S trusted o) (ltb-true w S.top h) in
            risen w (rise_in S trusted S.top w []) refl (and_left (S.owns w o) (rises (rise_in S trusted S.top w [])) p) (and_right (S.owns w o) (rises (rise_in S trusted S.top w [])) p)

        guarded : ltb (least S.top (riser S trusted o)) S.top ≡ false → Here no_way
        guarded h = guarded_safe (basics_of f) S trusted s o x valid unheld there above stars
          where
            above : TrustedAbove S.owns trusted o
            above =
                none_above S valid trusted o
                (λ w e. not_risen (rise_in S trusted S.top w [])
                (fails (rises (rise_in S trusted S.top w []))
                (λ r. clash (and_both e r) (none_below S.top (riser S trusted o) h w (row_below valid Own w o e)))))

            stars : Starless S trusted o x
            stars k g e v t =
                fails (S.basic k Starred v o)
                (λ b. clash (and_both {t = not (trusted v)} (rw t refl) (subst (λ (y : Right). has_star S y v o ≡ true) (sym e) b))
                (none_below S.top (star_holder S trusted o x) starless v (row_below valid (Basic k Starred) v o b)))

  -- every way says what is so
  pub decides : Says f S trusted s o x (way_of S trusted s o x)
  unfolding way_of
  decides =
      either Here (held S x s o) (λ h. reaches_leak tt (reaches_none h) (omega arith))
      (λ unheld. either Here (possible s o x)
      (λ reachable. either Here (ltb (least S.top (star_holder S trusted o x)) S.top) (by_stars unheld reachable)
      (λ starless. either Here (exists_name S o) (λ there. over unheld reachable there starless) (λ gone. made unheld reachable gone)))
      (λ impossible. impossible_safe (basics_of f) S trusted s o x valid impossible))
