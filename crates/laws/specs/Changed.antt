-- One bit of a state after each way to change a state: a bit set or cleared, cells cleared, own inherited, room for a subject. And what a
-- bit that is set then tells of the bits before.
use Rattle.std.specs.Prelude.{ℕ, ◌≡◌, refl, ◌⊎◌, Bool, true, false, cond, ◌&&◌, ◌||◌, eqb}
use Rattle.std.proofs.Common.{sym, ◌∙◌, inl, inr, ⊎_elim, eqb-true}
use Rattle.std.proofs.Math.Bool.{or-false}
use Rattle.std.proofs.lemmas.Bool.{false≢true}
use Rattle.matrix.specs.declared.Name.{Name}
use Rattle.matrix.specs.declared.Right.{Right}
use Rattle.matrix.specs.declared.Right.TheVariants.{Own, Control, Basic}
use Rattle.matrix.specs.Rights.{same_form}
use Rattle.matrix.specs.State.{State, has, is_cell, put, clear}
use Rattle.matrix.specs.Changes.{admit, inherit}
use Rattle.matrix.specs.Touched.{same_right, is_bit}
use Rattle.laws.specs.Tests.{and_left, and_right, or_cases, cond_cases, cond_both}
use Rattle.laws.specs.Same.{same_right_eq, is_bit_eq}

-- after one bit was set or cleared
pub top_put : (y : Right) (r : ℕ) (c : Name) (on : Bool) (S : State) → (put y r c on S).top ≡ S.top
top_put Own r c on S = refl
top_put Control r c on S = refl
top_put (Basic k f) r c on S = refl

pub has_put : (y : Right) (r : ℕ) (c : Name) (on : Bool) (S : State) (z : Right) (w : ℕ) (x : Name)
    → has (put y r c on S) z w x ≡ cond (is_bit y r c z w x) on (has S z w x)
has_put Own r c on S Own w x = refl
has_put Own r c on S Control w x = refl
has_put Own r c on S (Basic j g) w x = refl
has_put Control r c on S Own w x = refl
has_put Control r c on S Control w x = refl
has_put Control r c on S (Basic j g) w x = refl
has_put (Basic k f) r c on S Own w x = refl
has_put (Basic k f) r c on S Control w x = refl
has_put (Basic k f) r c on S (Basic j g) w x = cond_both (eqb j k && same_form g f) (is_cell r c w x) on (S.basic j g w x)

pub has_put_other : (y : Right) (r : ℕ) (c : Name) (on : Bool) (S : State) (z : Right) (w : ℕ) (x : Name)
    → is_bit y r c z w x ≡ false → has (put y r c on S) z w x ≡ has S z w x
has_put_other y r c on S z w x h = rw (has_put y r c on S z w x, h) refl

-- a bit that is set then was set, or is the one that was put
pub put_bit : (y : Right) (r : ℕ) (c : Name) (on : Bool) (S : State) (z : Right) (w : ℕ) (x : Name)
    → has (put y r c on S) z w x ≡ true → (has S z w x ≡ true) ⊎ ((z ≡ y) × (w ≡ r) × (x ≡ c))
put_bit y r c on S z w x h =
    ⊎_elim (λ p. inr (is_bit_eq y r c z w x p.0)) (λ p. inl p.1)
    (cond_cases (is_bit y r c z w x) on (has S z w x) (sym (has_put y r c on S z w x) ∙ h))

-- after cells were cleared
pub has_clear : (gone : ℕ → Name → Bool) (S : State) (z : Right) (w : ℕ) (x : Name)
    → has (clear gone S) z w x ≡ cond (gone w x) false (has S z w x)
has_clear gone S Own w x = refl
has_clear gone S Control w x = refl
has_clear gone S (Basic j g) w x = refl

pub clear_bit : (gone : ℕ → Name → Bool) (S : State) (z : Right) (w : ℕ) (x : Name)
    → has (clear gone S) z w x ≡ true → (gone w x ≡ false) × (has S z w x ≡ true)
clear_bit gone S z w x h =
    ⊎_elim (λ p. absurd (false≢true p.1)) (λ p. p) (cond_cases (gone w x) false (has S z w x) (sym (has_clear gone S z w x) ∙ h))

-- after i gained own over all that s owns
pub has_inherit : (i s : ℕ) (S : State) (z : Right) (w : ℕ) (x : Name)
    → has (inherit i s S) z w x ≡ (has S z w x || same_right z Own && eqb w i && S.owns s x)
has_inherit i s S Own w x = refl
has_inherit i s S Control w x = sym (or-false (S.controls w x))
has_inherit i s S (Basic j g) w x = sym (or-false (S.basic j g w x))

pub inherit_bit : (i s : ℕ) (S : State) (z : Right) (w : ℕ) (x : Name)
    → has (inherit i s S) z w x ≡ true → (has S z w x ≡ true) ⊎ ((z ≡ Own) × (w ≡ i) × (S.owns s x ≡ true))
inherit_bit i s S z w x h =
    ⊎_elim (λ old. inl old) (λ e. inr (gained e))
    (or_cases (has S z w x) (same_right z Own && eqb w i && S.owns s x) (sym (has_inherit i s S z w x) ∙ h))
  where
    gained : (same_right z Own && eqb w i && S.owns s x) ≡ true → (z ≡ Own) × (w ≡ i) × (S.owns s x ≡ true)
    gained e =
        let both = and_left (same_right z Own && eqb w i) (S.owns s x) e in (
          same_right_eq z Own (and_left (same_right z Own) (eqb w i) both),
          eqb-true w i (and_right (same_right z Own) (eqb w i) both),
          and_right (same_right z Own && eqb w i) (S.owns s x) e,
        )

-- room for a subject changes no bit
pub has_admit : (s : ℕ) (S : State) (z : Right) (w : ℕ) (x : Name) → has (admit s S) z w x ≡ has S z w x
has_admit s S Own w x = refl
has_admit s S Control w x = refl
has_admit s S (Basic j g) w x = refl
