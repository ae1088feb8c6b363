-- The two conversions (Manual 2.4, 7.3): a record written in another version. They are one definition, of which the version v that is wanted is an
-- argument; the calls have 1 and 2 there.
use Rattle.std.specs.Prelude.{ℕ, Bool, cond, not, ◌&&◌, ◌||◌, List, [], ◌∷◌, ◌++◌, eqb, leb, length, drop}
use Rattle.matrix.specs.declared.Form.TheVariants.{Plain, Starred}
use Rattle.matrix.specs.declared.Numbers.{Numbers}
use Rattle.matrix.specs.declared.Shape.{Shape}
use Rattle.matrix.specs.Bounded.{any}
use Rattle.matrix.specs.Names.{name_of}
use Rattle.matrix.specs.Numbers.{numbers}
use Rattle.matrix.specs.State.{State}
use Rattle.matrix.specs.Tests.{test, first_failed}
use Rattle.matrix.specs.Shape.{Limits, shape_in, shape_of, basics_of, columns, size_of}
use Rattle.matrix.specs.Reading.{state_of, content, bytes_of}
use Rattle.matrix.specs.Record.{record_refusal}

-- the shape in version v: n and p stay
abbrev pub in_version : ℕ → Shape → Shape
in_version v f = shape_in v f.n f.p

-- in one of the record's cells a bit is set, plain or starred, of a basic right of the number `basics` or above
unfoldable pub basic_from : ℕ → Shape → State → Bool
basic_from basics f S =
    any f.n (λ w. any (columns f) (λ c. any (basics_of f) (λ k. leb basics k &&
    (S.basic k Plain w (name_of f.n c) || S.basic k Starred w (name_of f.n c)))))

-- Tests, in this order: 1 to 5; then 18, where a basic right is set that version v does not have; then 15, where the output of `room` bytes is
-- shorter than the new record.
unfoldable pub convert_refusal : Limits → ℕ → List ℕ → ℕ → ℕ
convert_refusal most v b room =
    first_failed (test (record_refusal most b) (eqb (record_refusal most b) 0) ∷
    test 18 (not (basic_from (basics_of (in_version v (shape_of b))) (shape_of b) (state_of b))) ∷
    test 15 (leb (size_of (in_version v (shape_of b))) room) ∷ [])

-- the new record: what is read, in version v
unfoldable pub converted : ℕ → List ℕ → List ℕ
converted v b = bytes_of (content (in_version v (shape_of b)) (state_of b))

-- the answer in numbers, of which the value is the bytes of the new record
unfoldable pub convert_result : Limits → ℕ → List ℕ → List ℕ → Numbers
convert_result most v b out =
    numbers (convert_refusal most v b (length out)) (cond (eqb (convert_refusal most v b (length out)) 0) (size_of (in_version v (shape_of b))) 0)

-- the output after it: the new record, and after it the bytes that stood there; where the call is refused, as it was
unfoldable pub convert_output : Limits → ℕ → List ℕ → List ℕ → List ℕ
convert_output most v b out =
    cond (eqb (convert_refusal most v b (length out)) 0) (converted v b ++ drop (size_of (in_version v (shape_of b))) out) out
