-- After which command of a list a right is first held (Manual 6.3, 7.3). The commands are tried on a lent copy of the record.
use Rattle.std.specs.Prelude.{ℕ, ◌+◌, ◌≡◌, cond, List, [], ◌∷◌, eqb, leb, length, drop}
use Rattle.matrix.specs.declared.Fields.{Fields}
use Rattle.matrix.specs.declared.Name.{Name}
use Rattle.matrix.specs.declared.Numbers.{Numbers}
use Rattle.matrix.specs.declared.Right.{Right}
use Rattle.matrix.specs.declared.Shape.{Shape}
use Rattle.matrix.specs.Names.{name_of}
use Rattle.matrix.specs.Numbers.{numbers}
use Rattle.matrix.specs.Rights.{right_of}
use Rattle.matrix.specs.State.{State, held}
use Rattle.matrix.specs.Tests.{test, first_failed}
use Rattle.matrix.specs.Shape.{Limits, shape_of}
use Rattle.matrix.specs.Reading.{state_of}
use Rattle.matrix.specs.Record.{record_refusal}
use Rattle.matrix.specs.CommandList.{well_formed, commands_of}
use Rattle.matrix.specs.Calls.{question_fits, refusal_on, next_on}

-- Commands in turn on a state, up to the first that is refused; `accepted` of them came before it. Where s holds x over o on the state or after
-- some of these commands: the number of all commands before the first such state, and one. Else 0.
unfoldable pub first_from : ℕ → Shape → State → List Fields → Right → ℕ → Name → ℕ
first_from accepted f S [] x s o = cond (held S x s o) (accepted + 1) 0
first_from accepted f S (c ∷ cs) x s o =
    cond (held S x s o) (accepted + 1)
    (cond (eqb (refusal_on f S c) 0) (first_from (accepted + 1) f (next_on f S c) cs x s o) 0)

-- Tests, in this order: 1 to 5; 7, as for a held question; then 15, where the copy of `room` bytes is shorter than the record; then 16.
unfoldable pub first_held_refusal : Limits → List ℕ → List ℕ → ℕ → ℕ → ℕ → ℕ → ℕ
first_held_refusal most b l s o right room =
    first_failed (test (record_refusal most b) (eqb (record_refusal most b) 0) ∷
    test 7 (question_fits (shape_of b) s o right) ∷
    test 15 (leb (length b) room) ∷
    test 16 (well_formed l) ∷ [])

-- on a record, with the numbers of a question and the commands of a list
abbrev pub first_on : List ℕ → List ℕ → ℕ → ℕ → ℕ → ℕ
first_on b l s o right = first_from 0 (shape_of b) (state_of b) (commands_of l) (right_of right) s (name_of (shape_of b).n o)

-- the answer in numbers
unfoldable pub first_held_result : Limits → List ℕ → List ℕ → ℕ → ℕ → ℕ → ℕ → Numbers
first_held_result most b l s o right room =
    numbers (first_held_refusal most b l s o right room) (cond (eqb (first_held_refusal most b l s o right room) 0) (first_on b l s o right) 0)

-- What a call with this refusal leaves of a lent copy, of which it may write the first `used` bytes: refused, it is as it was; else what stands in
-- these bytes is left free, and every later byte is as it was.
pub record Lent (refusal used : ℕ) (copy copy' : List ℕ) : Type 0 where
  pub kept : (refusal ≡ 0 → ⊥) → copy' ≡ copy
  pub later : drop used copy' ≡ drop used copy
  pub size : length copy' ≡ length copy
