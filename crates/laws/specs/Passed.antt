-- Lists of tests: no test failed exactly where every test is passed, and what the tests of an accepted command say.
use Rattle.std.specs.Prelude.{ℕ, ◌≡◌, refl, ◌≢◌, Bool, true, false, cond, ◌&&◌, List, [], ◌∷◌, eqb}
use Rattle.std.proofs.Common.{arith, sym, ⊎_elim, eqb-true}
use Rattle.std.proofs.lemmas.Bool.{eqb-false}
use Rattle.matrix.specs.declared.Command.{Command}
use Rattle.matrix.specs.Names.{column_of}
use Rattle.matrix.specs.State.{State}
use Rattle.matrix.specs.Commands.{Raw, known, rule_of, fields_fit, decode}
use Rattle.matrix.specs.Tests.{Test, test, first_failed, command_tests}
use Rattle.matrix.specs.Step.{refusal_of, refusal}
use Rattle.laws.specs.Tests.{way, and_left, and_right}

-- every test is passed
abbrev pub Passed : List Test → Type 0
Passed [] = Unit
Passed (t ∷ ts) = (t.passed ≡ true) × Passed ts

-- the number of every test that is not passed has the property P
abbrev pub Numbers : (ℕ → Type 0) → List Test → Type 0
Numbers P [] = Unit
Numbers P (t ∷ ts) = (t.passed ≡ false → P t.number) × Numbers P ts

-- no test failed: every test is passed
pub none_failed : (ts : List Test) → Numbers (λ m. m ≢ 0) ts → first_failed ts ≡ 0 → Passed ts
unfolding first_failed
none_failed [] each h = tt
none_failed (t ∷ ts) each h =
    ⊎_elim (λ e. let g : first_failed ts ≡ 0 = rw e at h in (e, none_failed ts each.1 g))
    (λ e. let g : t.number ≡ 0 = rw e at h in absurd (each.0 e g)) (way t.passed)

-- and the other way round
pub all_passed : (ts : List Test) → Passed ts → first_failed ts ≡ 0
unfolding first_failed
all_passed [] h = refl
all_passed (t ∷ ts) h = rw h.0 (all_passed ts h.1)

-- a number as the only test, which 0 passes, is itself
pub itself : (m : ℕ) → cond (eqb m 0) 0 m ≡ m
itself m = ⊎_elim (λ e. rw e (sym (eqb-true m 0 e))) (λ e. rw e refl) (way (eqb m 0))

-- a decoded command that is accepted has passed every test
pub tests_passed : (S : State) (c : Command) → refusal_of S c ≡ 0 → Passed (command_tests S c)
unfolding refusal_of
tests_passed S c h = none_failed (command_tests S c) (omega arith) h

-- a command as given is accepted: its code is known, its names and fields fit, and the decoded command is accepted
pub record Taken (basics : ℕ) (names : Bool) (S : State) (c : Raw) : Type 0 where
  pub code : known c.code ≡ true
  pub bounds : names ≡ true
  pub fields : fields_fit basics (rule_of c.code c.k) c.s (column_of c.o) c.k ≡ true
  pub decoded : refusal_of S (decode c) ≡ 0

pub taken : (basics : ℕ) (names : Bool) (S : State) (c : Raw) → refusal basics names S c ≡ 0 → Taken basics names S c
unfolding refusal
taken basics names S c h =
    let number = refusal_of S (decode c) in
    let fit = fields_fit basics (rule_of c.code c.k) c.s (column_of c.o) c.k in
    let passed =
    none_failed (test 6 (known c.code) ∷ test 7 (names && fit) ∷ test number (eqb number 0) ∷ [])
    (omega arith, (omega arith, (λ e. eqb-false number 0 e, tt))) h in
    record {
      code = passed.0;
      bounds = and_left names fit passed.1.0;
      fields = and_right names fit passed.1.0;
      decoded = eqb-true number 0 passed.1.1.0;
    }
