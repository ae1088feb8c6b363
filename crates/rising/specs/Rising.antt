-- The steps of the way up from a subject, with the subjects passed.
use Rattle.std.specs.Prelude.{ℕ, zero, suc, ◌+◌, ◌-◌, ◌≤◌, ◌<◌, ◌≡◌, refl, Bool, true, false, cond, List, [], ◌∷◌, length, eqb, ltb, Some}
use Rattle.std.specs.List.{All}
use Rattle.std.proofs.Common.{arith, sym, ◌∙◌, ap, ap₂, subst, lt-ltb, ltb-true, ne_eqb}
use Rattle.std.proofs.lemmas.List.Elements.{All-nil, All-cons}
use Rattle.matrix.specs.declared.Name.{Name}
use Rattle.matrix.specs.Names.{U}
use Rattle.matrix.specs.State.{State}
use Rattle.matrix.specs.Owners.{owner_of}
use Rattle.route.specs.Rise.{Risen, meets_at, none, rise}
use Rattle.chain.specs.Rising.{rise_in, rise_here, rise_up}
use Rattle.rising.specs.Shut.{Next}

-- The way up has come to subject `at`, has passed these, and may visit `left` subjects more.
pub record Rising (S : State) (trusted : ℕ → Bool) (w at : ℕ) (passed : List ℕ) (left : ℕ) : Type 0 where
  pub rest : rise_in S trusted left at passed ≡ rise_in S trusted S.top w []

pub rising_none : {S : State} {trusted : ℕ → Bool} (w : ℕ) {passed : List ℕ} {left : ℕ} → passed ≡ [] → left ≡ S.top → Rising S trusted w w passed left
rising_none {S} {trusted} w e l = record { rest = ap₂ (λ (ws : List ℕ) (k : ℕ). rise_in S trusted k w ws) e l }

module _ {S : State} {trusted : ℕ → Bool} {w at : ℕ} {passed : List ℕ} {left : ℕ} (h : Rising S trusted w at passed left) where
  pub risen_out : left ≡ 0 → rise_in S trusted S.top w [] ≡ none
  unfolding rise
  risen_out z = sym h.rest ∙ rw z refl

  module _ (more : 0 < left) where
    one_more : rise_in S trusted left at passed ≡ rise_in S trusted (suc (left - 1)) at passed
    one_more = let e : left ≡ suc (left - 1) = omega arith in ap (λ (l : ℕ). rise_in S trusted l at passed) e

    pub risen_met : trusted at ≡ false → rise_in S trusted S.top w [] ≡ meets_at at passed
    risen_met t = sym h.rest ∙ one_more ∙ rise_here S.top S.owns trusted (left - 1) at passed t

    -- the way up goes on to u
    pub rising_up : {closed u l : ℕ} → trusted at ≡ true → Next S closed at (Some u) → l ≡ left - 1 → Rising S trusted w u (at ∷ passed) l
    rising_up {u = u} {l} t next e =
        let q = next.up u refl in
        let o : u ≡ owner_of S.top S.owns at = q.1 in
        record {
          rest =
              ap₂ (λ (v k : ℕ). rise_in S trusted k v (at ∷ passed)) o e
              ∙ sym (rise_up S.top S.owns trusted (left - 1) at passed t (ne_eqb at U q.0)
              (lt-ltb (owner_of S.top S.owns at) S.top (omega (arith, q.2))))
              ∙ sym one_more
              ∙ h.rest;
        }

-- ---- whom a way up meets and passes

-- they are below n
abbrev pub Within : ℕ → Risen → Type 0
Within n (meets_at v ws) = (v < n) × All (λ (w : ℕ). w < n) ws
Within n none = Unit

pub rise_within : (top : ℕ) (owns : ℕ → Name → Bool) (trusted : ℕ → Bool) (left w : ℕ) (passed : List ℕ) → w < top → All (λ (u : ℕ). u < top) passed
    → Within top (rise top owns trusted left w passed)
unfolding rise
rise_within top owns trusted zero w passed l h = tt
rise_within top owns trusted (suc left) w passed l h =
    by (trusted w) (eqb w U) (ltb (owner_of top owns w) top)
    (λ e. rise_within top owns trusted left (owner_of top owns w) (w ∷ passed) (ltb-true (owner_of top owns w) top e) (All-cons (λ (u : ℕ). u < top) w passed l h)) refl
  where
    up : Risen
    up = rise top owns trusted left (owner_of top owns w) (w ∷ passed)

    by : (t u o : Bool) → (ltb (owner_of top owns w) top ≡ true → Within top (rise top owns trusted left (owner_of top owns w) (w ∷ passed)))
        → ltb (owner_of top owns w) top ≡ o
        → Within top (cond t (cond u none (cond o (rise top owns trusted left (owner_of top owns w) (w ∷ passed)) none)) (meets_at w passed))
    by false u o ih e = (l, h)
    by true true o ih e = tt
    by true false false ih e = tt
    by true false true ih e = ih e

-- those passed are fewer than k
abbrev pub Fewer : ℕ → Risen → Type 0
Fewer k (meets_at v ws) = length ws < k
Fewer k none = Unit

-- a way up passes fewer subjects than it may visit, those passed before counted with both
pub rise_fewer : (top : ℕ) (owns : ℕ → Name → Bool) (trusted : ℕ → Bool) (left w : ℕ) (passed : List ℕ) {k : ℕ} → length passed + left ≤ k
    → Fewer k (rise top owns trusted left w passed)
unfolding rise
rise_fewer top owns trusted zero w passed h = tt
rise_fewer top owns trusted (suc left) w passed {k} h =
    by (trusted w) (eqb w U) (ltb (owner_of top owns w) top) (rise_fewer top owns trusted left (owner_of top owns w) (w ∷ passed) (omega arith))
  where
    by : (t u o : Bool) → Fewer k (rise top owns trusted left (owner_of top owns w) (w ∷ passed))
        → Fewer k (cond t (cond u none (cond o (rise top owns trusted left (owner_of top owns w) (w ∷ passed)) none)) (meets_at w passed))
    by false u o ih = omega arith
    by true true o ih = tt
    by true false false ih = tt
    by true false true ih = ih

-- so in a state of n subjects whoever is met is one of them, and those passed are too, and fewer
pub rise_found : (S : State) (trusted : ℕ → Bool) {w n v : ℕ} {ws : List ℕ} → S.top ≡ n → w < n → rise_in S trusted S.top w [] ≡ meets_at v ws
    → (v < n) × (length ws < n) × All (λ (u : ℕ). u < n) ws
rise_found S trusted {w} {n} {v} {ws} top l e =
    let k : Within S.top (meets_at v ws) =
    subst (Within S.top) e (rise_within S.top S.owns trusted S.top w [] (omega arith) (All-nil (λ (u : ℕ). u < S.top))) in
    let f : length ws < S.top = subst (Fewer S.top) e (rise_fewer S.top S.owns trusted S.top w [] (omega arith)) in
    (omega (arith, k.0), omega arith, subst (λ (m : ℕ). All (λ (u : ℕ). u < m) ws) top k.1)
