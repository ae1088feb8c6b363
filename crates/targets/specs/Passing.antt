-- The search for a star that goes over the untrusted subjects, lowest first.
use Rattle.std.specs.Prelude.{ℕ, ◌<◌, ◌≡◌, refl, Some, None, Bool, true, false, not, ◌&&◌, eqb, ltb}
use Rattle.std.proofs.Common.{arith, sym, ◌∙◌, ap, subst, ⊎_elim, eqb-true, lt-ltb, ltb-true}
use Rattle.std.proofs.lemmas.Bool.{not-true}
use Rattle.matrix.specs.Bounded.{any, least}
use Rattle.matrix.specs.Bytes.{bit}
use Rattle.laws.specs.Tests.{way, and_left, and_right}
use Rattle.laws.specs.Bounded.{none_any, least_hit, least_none}
use Rattle.row_search.specs.SomeBelow.{some_below, below_some, below_none}
use Rattle.masks.specs.Marks.{Outside}
use Rattle.masks.specs.Stepping.{LowestOf}

-- the members of `rest` are untrusted subjects, and no other of the n subjects is an untrusted one with the star
pub record Passed (trusted star : ℕ → Bool) (n rest : ℕ) : Type 0 where
  pub members : (j : ℕ) → bit j rest ≡ true → (j < n) × (trusted j ≡ false)
  pub others : (j : ℕ) → j < n → bit j rest ≡ false → (not (trusted j) && star j) ≡ false

-- before the first: all untrusted subjects are still to come
pub passed_none : (trust : ℕ) (star : ℕ → Bool) {n rest : ℕ} → Outside trust n rest → Passed (λ j. bit j trust) star n rest
passed_none trust star {n} {rest} h = record { members = members; others = others }
  where
    members : (j : ℕ) → bit j rest ≡ true → (j < n) × (bit j trust ≡ false)
    members j m =
        let both : (ltb j n && not (bit j trust)) ≡ true = sym (h.marks j) ∙ m in
        (ltb-true j n (and_left (ltb j n) (not (bit j trust)) both), not-true (bit j trust) (and_right (ltb j n) (not (bit j trust)) both))

    others : (j : ℕ) → j < n → bit j rest ≡ false → (not (bit j trust) && star j) ≡ false
    others j l z =
        let one : not (bit j trust) ≡ false = ap (λ (t : Bool). t && not (bit j trust)) (sym (lt-ltb j n l)) ∙ sym (h.marks j) ∙ z in
        rw one refl

module _ {trusted star : ℕ → Bool} {n rest : ℕ} (h : Passed trusted star n rest) where
  pub star_none : ((j : ℕ) → bit j rest ≡ false) → None ≡ some_below n (least n (λ j. not (trusted j) && star j))
  star_none z =
      let e : least n (λ j. not (trusted j) && star j) ≡ n =
      least_none n (λ j. not (trusted j) && star j) (none_any n (λ j. not (trusted j) && star j) (λ j l. h.others j l (z j))) in
      below_none (omega arith)

  -- the next is v, and t is the answer whether it has the star
  module _ {v : ℕ} {t : Bool} (w : LowestOf rest v) (f : t ≡ star v) where
    here : (not (trusted v) && star v) ≡ t
    here = rw (h.members v w.member).1 (sym f)

    pub star_found : t ≡ true → Some v ≡ some_below n (least n (λ j. not (trusted j) && star j))
    star_found s =
        let l : v < n = (h.members v w.member).0 in
        let before : any v (λ j. not (trusted j) && star j) ≡ false =
        none_any v (λ j. not (trusted j) && star j) (λ j k. h.others j (omega arith) (w.none_below j k)) in
        below_some l ∙ ap (some_below n) (sym (least_hit n (λ j. not (trusted j) && star j) v l before (here ∙ s)))

    pub passed_more : {more : ℕ} → t ≡ false → ((j : ℕ) → bit j more ≡ (bit j rest && not (eqb j v))) → Passed trusted star n more
    passed_more {more} s g = record { members = members; others = others }
      where
        left : (t : Bool) → (t && true) ≡ false → t ≡ false
        left true e = e
        left false e = refl

        members : (j : ℕ) → bit j more ≡ true → (j < n) × (trusted j ≡ false)
        members j m = h.members j (and_left (bit j rest) (not (eqb j v)) (sym (g j) ∙ m))

        others : (j : ℕ) → j < n → bit j more ≡ false → (not (trusted j) && star j) ≡ false
        others j l z =
            ⊎_elim
            (λ (q : eqb j v ≡ true). subst (λ (i : ℕ). (not (trusted i) && star i) ≡ false) (sym (eqb-true j v q)) (here ∙ s))
            (λ (q : eqb j v ≡ false). h.others j l (left (bit j rest) (sym (rw q refl) ∙ sym (g j) ∙ z))) (way (eqb j v))
