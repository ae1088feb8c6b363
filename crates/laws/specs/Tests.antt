-- Tests that hold and tests that fail, taken apart and put together.
use Rattle.std.specs.Prelude.{◌≡◌, refl, ◌⊎◌, Bool, true, false, cond, not, ◌&&◌, ◌||◌}
use Rattle.std.proofs.Common.{sym, ◌∙◌, ap, inl, inr, true≢false}
use Rattle.std.proofs.lemmas.Bool.{false≢true}

-- a test holds or fails
pub way : (t : Bool) → (t ≡ true) ⊎ (t ≡ false)
way true = inl refl
way false = inr refl

-- it cannot do both
pub clash : {t : Bool} → t ≡ true → t ≡ false → ⊥
clash h n = true≢false (sym h ∙ n)

-- what cannot hold fails, and what cannot fail holds
pub fails : (t : Bool) → (t ≡ true → ⊥) → t ≡ false
fails true h = absurd (h refl)
fails false h = refl

pub holds : (t : Bool) → (t ≡ false → ⊥) → t ≡ true
holds true h = refl
holds false h = absurd (h refl)

-- a test that fails, negated
pub fails_not : {t : Bool} → t ≡ false → not t ≡ true
fails_not {t} h = rw h refl

-- tests that hold where the other does are equal
pub same_test : (t u : Bool) → (t ≡ true → u ≡ true) → (u ≡ true → t ≡ true) → t ≡ u
same_test true u f g = sym (f refl)
same_test false true f g = g refl
same_test false false f g = refl

pub and_left : (t u : Bool) → (t && u) ≡ true → t ≡ true
and_left true u h = refl
and_left false u h = h

pub and_right : (t u : Bool) → (t && u) ≡ true → u ≡ true
and_right true u h = h
and_right false u h = absurd (false≢true h)

pub and_both : {t u : Bool} → t ≡ true → u ≡ true → (t && u) ≡ true
and_both {t} {u} h g = rw (h, g) refl

pub or_cases : (t u : Bool) → (t || u) ≡ true → (t ≡ true) ⊎ (u ≡ true)
or_cases true u h = inl refl
or_cases false u h = inr h

pub or_left : {t : Bool} (u : Bool) → t ≡ true → (t || u) ≡ true
or_left {t} u h = rw h refl

pub or_right : (t : Bool) {u : Bool} → u ≡ true → (t || u) ≡ true
or_right true h = refl
or_right false h = h

pub or_none_left : (t u : Bool) → (t || u) ≡ false → t ≡ false
or_none_left true u h = h
or_none_left false u h = refl

pub or_none_right : (t u : Bool) → (t || u) ≡ false → u ≡ false
or_none_right true u h = absurd (clash refl h)
or_none_right false u h = h

-- an alternative that fails leaves the other
pub or_other : {t u : Bool} → (t || u) ≡ true → t ≡ false → u ≡ true
or_other {t} {u} h e = let r : (false || u) ≡ true = rw e at h in r

-- a choice between two tests holds where the one that is chosen does
pub cond_cases : (t a b : Bool) → cond t a b ≡ true → ((t ≡ true) × (a ≡ true)) ⊎ ((t ≡ false) × (b ≡ true))
cond_cases true a b h = inl (refl, h)
cond_cases false a b h = inr (refl, h)

-- two choices in turn are one choice by both conditions
pub cond_both : (t u v m : Bool) → cond t (cond u v m) m ≡ cond (t && u) v m
cond_both true u v m = refl
cond_both false u v m = refl

-- A conjunction or a disjunction that is worked out from the left: t is the answer for its left side e, r for its right side x.
pub and_then : {t e r x : Bool} → t ≡ true → t ≡ e → r ≡ x → r ≡ (e && x)
and_then {x = x} h f g = g ∙ ap (λ (e : Bool). e && x) (sym h ∙ f)

pub and_stop : {t e : Bool} (x : Bool) → t ≡ false → t ≡ e → false ≡ (e && x)
and_stop x h f = ap (λ (e : Bool). e && x) (sym h ∙ f)

pub or_next : {t e r x : Bool} → t ≡ false → t ≡ e → r ≡ x → r ≡ (e || x)
or_next {x = x} h f g = g ∙ ap (λ (e : Bool). e || x) (sym h ∙ f)

pub or_stop : {t e : Bool} (x : Bool) → t ≡ true → t ≡ e → true ≡ (e || x)
or_stop x h f = ap (λ (e : Bool). e || x) (sym h ∙ f)
