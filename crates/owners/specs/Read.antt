-- Bytes are turned down by none of the tests 1 to 5 exactly where they have the right form and the state that is read from them is valid.
use Rattle.std.specs.Prelude.{ℕ, ◌≤◌, ◌≡◌, List, [], ◌∷◌, eqb, leb, length}
use Rattle.std.proofs.Common.{arith, eqb-true}
use Rattle.matrix.specs.Tests.{Test, test}
use Rattle.matrix.specs.Bytes.{number_at}
use Rattle.matrix.specs.Shape.{limits, shape_of, header_bytes, known_version, in_range, sized, count_of, size_of}
use Rattle.matrix.specs.Reading.{state_of}
use Rattle.matrix.specs.Shaped.{Shaped}
use Rattle.matrix.specs.Record.{valid_matrix, record_refusal}
use Rattle.laws.specs.Tests.{and_left, and_right}
use Rattle.laws.specs.Passed.{Passed, none_failed}
use Rattle.laws.specs.Range.{Ranged, ranged}

-- the tests of a record, in their order
abbrev pub record_tests : List ℕ → List Test
record_tests b =
    test 1 (leb header_bytes (length b)) ∷
    test 2 (known_version (shape_of b).version) ∷
    test 3 (in_range limits (shape_of b)) ∷
    test 4 (sized b) ∷
    test 5 (valid_matrix (shape_of b) (state_of b)) ∷ []

pub tests_passed : (b : List ℕ) → record_refusal limits b ≡ 0 → Passed (record_tests b)
unfolding record_refusal
tests_passed b h = none_failed (record_tests b) (omega arith) h

-- A record that is not turned down has the right form, and its state is valid.
pub record_shaped : (b : List ℕ) → record_refusal limits b ≡ 0 → Shaped b
record_shaped b h =
    let t = tests_passed b h in
    let range : Ranged limits (shape_of b) = ranged limits (shape_of b) t.1.1.0 in
    let size = t.1.1.1.0 in
    let count = eqb (number_at b 1 4) (count_of (shape_of b)) in
    let whole = eqb (length b) (size_of (shape_of b)) in
    record {
      version = t.1.0;
      low = range.low;
      high = range.high;
      plain = range.plain;
      count = eqb-true (number_at b 1 4) (count_of (shape_of b)) (and_left count whole size);
      size = eqb-true (length b) (size_of (shape_of b)) (and_right count whole size);
    }

-- a record of the right form is at least as long as its head
pub long : (b : List ℕ) → Shaped b → header_bytes ≤ length b
unfolding shape_of
long b s = let e : length b ≡ size_of (shape_of b) = s.size in omega arith
