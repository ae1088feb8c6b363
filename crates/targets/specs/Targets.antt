-- The rights that have no star.
use Rattle.std.specs.Prelude.{ℕ, ◌≡◌, refl, None, ◌⊎◌, Bool, true, false, not, ◌&&◌}
use Rattle.std.proofs.Common.{arith, ◌∙◌, ap, ⊎_elim}
use Rattle.matrix.specs.declared.Name.{Name}
use Rattle.matrix.specs.declared.Right.{Right}
use Rattle.matrix.specs.declared.Right.TheVariants.{Own, Control}
use Rattle.matrix.specs.Bounded.{least}
use Rattle.matrix.specs.State.{State}
use Rattle.laws.specs.Bounded.{none_any, least_none}
use Rattle.row_search.specs.SomeBelow.{some_below, below_none}
use Rattle.safe.specs.Conditions.{has_star}
use Rattle.ways.specs.Ways.{star_holder}

module _ (S : State) (trusted : ℕ → Bool) (x : Name) (n : ℕ) where
  none_has : {y : Right} (y₁ : Right) → y ≡ y₁ → ((v : ℕ) → has_star S y₁ v x ≡ false) → None ≡ some_below n (least n (star_holder S trusted x y))
  none_has {y} y₁ e h =
      let none : least n (star_holder S trusted x y) ≡ n =
      ap (λ (y : Right). least n (star_holder S trusted x y)) e
      ∙ least_none n (star_holder S trusted x y₁) (none_any n (star_holder S trusted x y₁) (λ v l. ap (λ (u : Bool). not (trusted v) && u) (h v) ∙ and_none (not (trusted v)))) in
      below_none (omega arith)
    where
      and_none : (t : Bool) → (t && false) ≡ false
      and_none true = refl
      and_none false = refl

  pub no_star : {y : Right} → (y ≡ Own) ⊎ (y ≡ Control) → None ≡ some_below n (least n (star_holder S trusted x y))
  no_star h = ⊎_elim (λ e. none_has Own e (λ v. refl)) (λ e. none_has Control e (λ v. refl)) h
