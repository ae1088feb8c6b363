-- Records with few columns, whose subjects are counted in a few numbers.
use Rattle.std.specs.Prelude.{ℕ, zero, suc, ◌+◌, ◌-◌, ◌*◌, ◌/◌, ◌%◌, ◌≤◌, ◌<◌, ◌≡◌, refl, true, false, List, length, get_or, set, replicate}
use Rattle.std.proofs.Common.{arith, ◌∙◌, ap, subst}
use Rattle.std.proofs.Math.Path.{sym, ap₂}
use Rattle.std.proofs.lemmas.List.{length-replicate}
use Rattle.matrix.specs.Bounded.{all}
use Rattle.matrix.specs.declared.Shape.{Shape}
use Rattle.matrix.specs.Shape.{shape_of}
use Rattle.matrix.specs.Reading.{state_of}
use Rattle.matrix.specs.Record.{valid_matrix}
use Rattle.laws.specs.Bounded.{all_same}
use Rattle.cells.specs.Station.{Station}
use Rattle.lanes.specs.declared.Matrix.{Matrix}
use Rattle.lanes.specs.Lists.{Holds, Stored, stored_none, stored_step, Filled}
use Rattle.lanes.specs.Lanes.{lows, paired, mark_of, place_of, upper_at, bit_in, seen_at}
use Rattle.tallies.specs.declared.Counts.{Counts}
use Rattle.tallies.specs.Blocks.{at_once}
use Rattle.tallies.specs.Halves.{row_half, taken, Halves}
use Rattle.columns.specs.Cells.{most_counted, lanes_of, last_lane, matrix_of}
use Rattle.columns.specs.Checks.{present, counts, count_test, subject_test}
use Rattle.columns.specs.Loops.{counts_test}
use Rattle.plains.specs.Checks.{plain_test}
use Rattle.plains.specs.Parts.{lanes_single}
use Rattle.few_subjects.specs.Counts.{few_test, tally_is, odd_is, since_is, counts_low}
use Rattle.owner_table.specs.Table.{owner_in, lower_test, lower_rooted}
use Rattle.validity.specs.Passed.{owner_at}
use Rattle.validity.specs.Whole.{Scanned, owners_left}

-- a shape with cells of one lane, few subjects and few plain columns, but as many columns as are counted at once
pub record FewColumns (f : Shape) : Type 0 where
  pub width : f.width ≡ 2
  pub subjects : f.n ≤ at_once
  pub plain : f.p ≤ at_once
  pub enough : at_once ≤ f.n + f.p

-- a list of `room` places with g at those below m
written : (room m : ℕ) (g : ℕ → ℕ) → List ℕ
written room zero g = replicate room 0
written room (suc m) g = set (written room m g) m (g m)

written_stored : (room m : ℕ) (g : ℕ → ℕ) → m ≤ room → Stored m g (replicate room 0) (written room m g)
unfolding written
written_stored room zero g l = stored_none g _
written_stored room (suc m) g l =
    let s = written_stored room m g (omega arith) in
    let e : m + 1 ≡ suc m = omega arith in
    subst (λ (i : ℕ). Stored i g (replicate room 0) (set (written room m g) m (g m))) e
    (stored_step m g _ _ (g m) s (omega (arith, s.size, length-replicate {A = ℕ} room 0)) refl)

holds : (room m : ℕ) (g : ℕ → ℕ) → m ≤ room → Holds room m g (written room m g)
holds room m g l = let s = written_stored room m g l in record { size = s.size ∙ length-replicate {A = ℕ} room 0; value = s.below }

single : (s : ℕ) → last_lane 1 s ≡ s
unfolding last_lane
single s = omega arith

-- Such a record, whose lanes are counted over all rows.
module _ (b : List ℕ) (f : Shape) (m : Matrix) (station : Station b f) (few : FewColumns f) (lanes : m ≡ matrix_of f) (counted : Counts) (k : Halves (row_half false b m 0) m.rows counted) where
  abbrev n : ℕ
  n = m.rows

  subjects_few : n ≤ at_once
  subjects_few = omega (arith, few.subjects, ap (λ (x : Matrix). x.rows) lanes)

  small : 3 * n < 256
  small = omega (arith, subjects_few)

  -- the lists that hold what is counted
  abbrev filled : (ℕ → ℕ) → List ℕ
  filled = written most_counted (lanes_of 1 n)

  abbrev tally : List ℕ
  tally = filled (λ j. lows n (λ v. upper_at b m v j))

  abbrev parity : List ℕ
  parity = filled (λ j. paired n (λ v. upper_at b m v j) % 4)

  abbrev marks : List ℕ
  marks = filled (λ j. mark_of n (bit_in b m 0 j))

  filled_holds : (g : ℕ → ℕ) → Holds most_counted (lanes_of 1 n) g (filled g)
  filled_holds g = holds most_counted (lanes_of 1 n) g (omega (arith, lanes_single n, subjects_few))

  filled_at : (g : ℕ → ℕ) (s : ℕ) → s < n → get_or (filled g) (last_lane 1 s) 0 ≡ g s
  filled_at g s l = ap (λ (i : ℕ). get_or (filled g) i 0) (single s) ∙ (filled_holds g).value s (omega (arith, lanes_single n))

  scanned : Scanned b f 1 m tally parity marks
  scanned =
      record {
        station = station;
        cells = ap (λ (i : ℕ). i / 2) (sym few.width);
        lanes = lanes;
        kept = record { sums = filled_holds _; parity = filled_holds _; owner = filled_holds _ };
      }

  -- the counts of a subject are those of the lists
  counts_same : (s : ℕ) → s < n → count_test 1 tally parity s ≡ few_test counted s
  unfolding count_test few_test
  counts_same s l =
      ap₂ (λ (x y : ℕ). counts s x y) (filled_at _ s l ∙ sym (tally_is b m counted k small s (omega (arith, subjects_few)))) (filled_at _ s l)
      ∙ counts_low s _ _ _ (omega (arith, odd_is b m counted k small s (omega (arith, subjects_few))))

  -- where all subjects exist and their counts fit, they pass their tests
  subjects_pass : all n (present 1 b m) ≡ true → all n (few_test counted) ≡ true → all n (subject_test 1 b m (seen_at b m) tally parity) ≡ true
  subjects_pass p c = sym (counts_test 1 b m (seen_at b m) tally parity p) ∙ all_same n _ _ counts_same ∙ c

  -- where the owners are put at their subjects' places, the plain columns pass too, and each owner has a lower number, the matrix is valid
  pub surely : (owners left table : List ℕ) → Filled 0 at_once (λ x. place_of n (taken counted.since 256 (x - 0))) owners left
      → length table ≡ n → ((s : ℕ) → s < n → owner_in table s ≡ get_or left s 0)
      → all n (present 1 b m) ≡ true → all n (few_test counted) ≡ true → all f.p (λ i. plain_test 1 (seen_at b m) (n + i)) ≡ true
      → all (length table) (lower_test table) ≡ true → true ≡ valid_matrix (shape_of b) (state_of b)
  surely owners left table put size same p c plain lower =
      owners_left b f 1 m tally parity marks scanned table (subjects_pass p c) plain size (λ s l. same s l ∙ put_at s l) true
      (sym (lower_rooted (length table) table (omega (arith, size, subjects_few)) lower))
    where
      put_at : (s : ℕ) → s < n → get_or left s 0 ≡ owner_at 1 marks s
      put_at s l =
          put.inside s (omega arith) (omega (arith, subjects_few)) ∙ ap (λ (i : ℕ). place_of n (taken counted.since 256 i)) (omega arith)
          ∙ ap (place_of n) (since_is b m counted k small s (omega (arith, subjects_few))) ∙ sym (filled_at _ s l)
