-- The tests of a decoded command in two stages.
use Rattle.std.specs.Prelude.{ℕ, ◌≡◌, Bool, true, false, cond, List, [], ◌∷◌, eqb}
use Rattle.std.proofs.Common.{arith}
use Rattle.std.proofs.Math.Path.{refl}
use Rattle.matrix.specs.declared.Command.{Command}
use Rattle.matrix.specs.State.{State, exists}
use Rattle.matrix.specs.Commands.{kind_of}
use Rattle.matrix.specs.Tests.{Test, test, first_failed, kind_fits, present, free, permitted, deletable, apart, uncontrolled}
use Rattle.matrix.specs.Step.{refusal_of}

-- the first failure among the tests 8 to 11, and among 12, 19, 13 and 14
unfoldable pub early : State → Command → ℕ
early S c = first_failed (test 8 (exists S c.i) ∷ test 9 (kind_fits (kind_of c.act) c.o) ∷ test 10 (present S c c.act) ∷ test 11 (free S c c.act) ∷ [])

unfoldable pub late : State → Command → ℕ
late S c = first_failed (test 12 (permitted S c c.act) ∷ test 19 (deletable S c c.act) ∷ test 13 (apart S c c.act) ∷ test 14 (uncontrolled S c c.act) ∷ [])

stages : (r s t u : Bool) (us : List Test) → first_failed (test 8 r ∷ test 9 s ∷ test 10 t ∷ test 11 u ∷ us) ≡ cond (eqb (first_failed (test 8 r ∷ test 9 s ∷ test 10 t ∷ test 11 u ∷ [])) 0) (first_failed us) (first_failed (test 8 r ∷ test 9 s ∷ test 10 t ∷ test 11 u ∷ []))
unfolding first_failed
stages false s t u us = refl
stages true false t u us = refl
stages true true false u us = refl
stages true true true false us = refl
stages true true true true us = refl

-- the refusal is that of the first stage, or where it passed that of the second
pub refusal_stages : (S : State) (c : Command) → refusal_of S c ≡ cond (eqb (early S c) 0) (late S c) (early S c)
unfolding early late refusal_of
refusal_stages S c = stages (exists S c.i) (kind_fits (kind_of c.act) c.o) (present S c c.act) (free S c c.act) _

second_passed : (r s t u : Bool) → first_failed (test 8 r ∷ test 9 s ∷ test 10 t ∷ test 11 u ∷ []) ≡ 0 → s ≡ true
unfolding first_failed
second_passed false s t u h = absurd (omega arith)
second_passed true false t u h = absurd (omega arith)
second_passed true true t u h = refl

-- where the first stage passed, o is of the kind needed
pub early_kind : (S : State) (c : Command) → early S c ≡ 0 → kind_fits (kind_of c.act) c.o ≡ true
unfolding early
early_kind S c h = second_passed (exists S c.i) (kind_fits (kind_of c.act) c.o) (present S c c.act) (free S c c.act) h

not_thirteen : (r s t u : Bool) → eqb (first_failed (test 8 r ∷ test 9 s ∷ test 10 t ∷ test 11 u ∷ [])) 13 ≡ false
unfolding first_failed
not_thirteen false s t u = refl
not_thirteen true false t u = refl
not_thirteen true true false u = refl
not_thirteen true true true false = refl
not_thirteen true true true true = refl

-- the first stage never answers 13
pub early_not_thirteen : (S : State) (c : Command) → eqb (early S c) 13 ≡ false
unfolding early
early_not_thirteen S c = not_thirteen (exists S c.i) (kind_fits (kind_of c.act) c.o) (present S c c.act) (free S c c.act)

module _ (S : State) (c : Command) where
  pub early_8 : exists S c.i ≡ false → 8 ≡ early S c
  unfolding early first_failed
  early_8 h = rw h refl

  pub early_9 : exists S c.i ≡ true → kind_fits (kind_of c.act) c.o ≡ false → 9 ≡ early S c
  unfolding early first_failed
  early_9 h e = rw (h, e) refl

  pub early_10 : exists S c.i ≡ true → kind_fits (kind_of c.act) c.o ≡ true → present S c c.act ≡ false → 10 ≡ early S c
  unfolding early first_failed
  early_10 h e f = rw (h, e, f) refl

  -- the last test is passed (u), or not
  pub early_11 : {u : Bool} → exists S c.i ≡ true → kind_fits (kind_of c.act) c.o ≡ true → present S c c.act ≡ true → free S c c.act ≡ u → cond u 0 11 ≡ early S c
  unfolding early first_failed
  early_11 h e f g = rw (h, e, f, g) refl
