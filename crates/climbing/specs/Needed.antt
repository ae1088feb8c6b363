-- Of the subjects that a way up to a plain object passed, those that are needed: down to the first that owns it.
use Rattle.std.specs.Prelude.{ℕ, zero, suc, ◌-◌, ◌≤◌, ◌<◌, ◌≡◌, refl, Bool, true, false, cond, List, [], ◌∷◌, ◌++◌, length, take, slice_index}
use Rattle.std.specs.List.{All}
use Rattle.std.proofs.Common.{not-suc-le-zero, arith, sym, ◌∙◌, ap, subst}
use Rattle.std.proofs.Math.ListN.{get_or-append}
use Rattle.std.proofs.lemmas.List.Elements.{All-take}
use Rattle.matrix.specs.declared.Name.{Name}
use Rattle.route.specs.Parts.{until_owner}

module _ (owns : ℕ → Name → Bool) (o : Name) where
  -- they are the first of the list
  pub until_take : (ws : List ℕ) → take (length (until_owner owns o ws)) ws ≡ until_owner owns o ws
  unfolding until_owner
  until_take [] = refl
  until_take (w ∷ ws) = ap (λ (vs : List ℕ). w ∷ vs) (rest (owns w o) (until_take ws))
    where
      rest : (t : Bool) → take (length (until_owner owns o ws)) ws ≡ until_owner owns o ws
          → take (length (cond t [] (until_owner owns o ws))) ws ≡ cond t [] (until_owner owns o ws)
      rest true e = refl
      rest false e = e

  pub until_few : (ws : List ℕ) → length (until_owner owns o ws) ≤ length ws
  unfolding until_owner
  until_few [] = omega arith
  until_few (w ∷ ws) = rest (owns w o) (until_few ws)
    where
      rest : (t : Bool) → length (until_owner owns o ws) ≤ length ws → suc (length (cond t [] (until_owner owns o ws))) ≤ suc (length ws)
      rest true h = omega arith
      rest false h = omega arith

  -- they are fewer than n and below n where those of the list are
  pub until_found : (ws : List ℕ) {n : ℕ} {vs : List ℕ} → length ws < n → All (λ (w : ℕ). w < n) ws → vs ≡ until_owner owns o ws
      → (length vs < n) × All (λ (w : ℕ). w < n) vs
  until_found ws {n} {vs} few each e =
      let P : ℕ → Type 0 = λ (w : ℕ). w < n in (
        omega (arith, ap length e, until_few ws),
        subst (All P) (until_take ws ∙ sym e) (All-take P (length (until_owner owns o ws)) ws each),
      )

  -- one subject alone is needed
  pub until_one : (ws : List ℕ) → length ws < 2 → until_owner owns o ws ≡ ws
  unfolding until_owner
  until_one [] l = refl
  until_one (w ∷ []) l = either (owns w o)
    where
      either : (t : Bool) → w ∷ cond t [] [] ≡ w ∷ []
      either true = refl
      either false = refl
  until_one (w ∷ v ∷ ws) l = absurd (omega arith)

  -- none before place t owns o
  abbrev pub NoneBefore : List ℕ → ℕ → Type 0
  NoneBefore ws t = (k : ℕ) → k < t → owns (slice_index ws k) o ≡ false

  pub until_hit : (ws : List ℕ) (t : ℕ) → t < length ws → NoneBefore ws t → owns (slice_index ws t) o ≡ true → suc t ≡ length (until_owner owns o ws)
  unfolding until_owner
  until_hit [] t l h e = absurd (not-suc-le-zero l)
  until_hit (w ∷ ws) zero l h e = rw e refl
  until_hit (w ∷ ws) (suc t) l h e = rw (h 0 (omega arith)) (ap suc (until_hit ws t (omega arith) (λ k b. h (suc k) (omega arith)) e))

  -- the last is needed where those before it are, whether it owns o or not
  pub until_all : (ws : List ℕ) → NoneBefore ws (length ws - 1) → length ws ≡ length (until_owner owns o ws)
  unfolding until_owner
  until_all [] h = refl
  until_all (w ∷ []) h = sym (ap length (until_one (w ∷ []) (omega arith)))
  until_all (w ∷ v ∷ ws) h = rw (h 0 (omega arith)) (ap suc (until_all (v ∷ ws) (λ k b. h (suc k) (omega arith))))

-- those before the last of a list stand in it where they stand among themselves
pub before_last : (ws vs : List ℕ) (w k : ℕ) → ws ≡ vs ++ (w ∷ []) → k < length vs → slice_index ws k ≡ slice_index vs k
before_last ws vs w k e l = ap (λ (us : List ℕ). slice_index us k) e ∙ get_or-append vs (w ∷ []) 0 k l
