-- Bytes are turned down by none of the tests 1 to 5 exactly where they have the right form and the state that is read from them is valid.
use Rattle.std.specs.Prelude.{ℕ, ◌<◌, ◌≡◌, true, List, length}
use Rattle.std.proofs.Common.{arith, eq-eqb, le-leb}
use Rattle.matrix.specs.declared.Name.{Name}
use Rattle.matrix.specs.declared.Shape.{Shape}
use Rattle.matrix.specs.Owners.{walk, links_of}
use Rattle.matrix.specs.Valid.{Valid}
use Rattle.matrix.specs.Bytes.{number_at}
use Rattle.matrix.specs.Shape.{limits, shape_of, header_bytes, in_range, sized, count_of, size_of}
use Rattle.matrix.specs.Reading.{state_of}
use Rattle.matrix.specs.Shaped.{Shaped}
use Rattle.matrix.specs.Record.{valid_matrix, record_refusal}
use Rattle.laws.specs.Tests.{and_both}
use Rattle.laws.specs.Passed.{all_passed}
use Rattle.laws.specs.Range.{in_range_lem}
use Rattle.codec.specs.RoundTrip.{within_read}
use Rattle.owners.proofs.Walk.{walk_links}
use Rattle.owners.proofs.Test.{valid_of_test, test_of_valid}
use Rattle.owners.specs.Read.{long, record_tests, tests_passed}

pub valid_record : (b : List ℕ) → record_refusal limits b ≡ 0 → Valid (state_of b)
valid_record b h = valid_of_test (shape_of b) (state_of b) (within_read b) (tests_passed b h).1.1.1.1.0

-- A walk on a record that is not turned down follows at most n - 1 links.
pub record_links : (b : List ℕ) → record_refusal limits b ≡ 0 → (s : ℕ) (o : Name) → links_of (walk (state_of b) s o) < (shape_of b).n
record_links b h s o =
    let l : links_of (walk (state_of b) s o) < (state_of b).top = walk_links (state_of b) (valid_record b h) s o in
    let t : (state_of b).top ≡ (shape_of b).n = (within_read b).top in
    omega arith

-- A record of the right form whose state is valid is not turned down.
pub record_valid : (b : List ℕ) → Shaped b → Valid (state_of b) → record_refusal limits b ≡ 0
unfolding record_refusal
record_valid b s h =
    let f : Shape = shape_of b in
    let range : in_range limits f ≡ true = in_range_lem limits f (record { low = s.low; high = s.high; plain = s.plain }) in
    let size : sized b ≡ true = and_both (eq-eqb (number_at b 1 4) (count_of f) s.count) (eq-eqb (length b) (size_of f) s.size) in
    let matrix : valid_matrix f (state_of b) ≡ true = test_of_valid f (state_of b) (within_read b) h in
    all_passed (record_tests b) (le-leb header_bytes (length b) (long b s), (s.version, (range, (size, (matrix, tt)))))
