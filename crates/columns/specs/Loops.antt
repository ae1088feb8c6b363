-- Laws for the tests of columns.
use Rattle.std.specs.Prelude.{ℕ, ◌+◌, ◌*◌, ◌/◌, ◌%◌, ◌≤◌, ◌<◌, ◌≡◌, Bool, true, false, not, ◌&&◌, List, eqb}
use Rattle.std.proofs.Common.{arith, sym, ◌∙◌, ne_eqb}
use Rattle.std.proofs.lemmas.Bool.{false≢true}
use Rattle.std.proofs.Math.Path.{refl, ap}
use Rattle.std.proofs.Math.ListN.{get_or, length}
use Rattle.matrix.specs.Bounded.{all}
use Rattle.matrix.specs.Bytes.{bit}
use Rattle.laws.specs.Bounded.{all_same, all_each}
use Rattle.lanes.specs.declared.Matrix.{Matrix}
use Rattle.lanes.specs.Lanes.{row_bytes, row_place, byte_at, seen_at, Seen}
use Rattle.lanes.specs.Zeros.{merged_zero}
use Rattle.columns.specs.Cells.{OneOrTwo, lanes_of, last_lane, bits_in, either_way, last_inside, bits_moved}
use Rattle.columns.specs.Checks.{present, zero_from, root_counts, other_counts, counts, count_test, unseen, judged, subject_test, Celled, IsRow}

-- bit 1, as the code tests it
pub bit_one : (v : ℕ) → eqb (v / 2 % 2) 1 ≡ bit 1 v
unfolding bit
bit_one v = refl

-- U's counts, and those of another subject, by the last lane of its column
pub count_root : (q : ℕ) (tally odd : List ℕ) (j : ℕ) (r : Bool) → j ≡ last_lane q 0 → r ≡ root_counts (get_or tally j 0) (get_or odd j 0) → r ≡ count_test q tally odd 0
unfolding count_test
count_root q tally odd j r p e = e ∙ ap (λ (i : ℕ). root_counts (get_or tally i 0) (get_or odd i 0)) p

pub count_other : (q : ℕ) (tally odd : List ℕ) (s j : ℕ) (r : Bool) → 1 ≤ s → j ≡ last_lane q s → r ≡ other_counts (get_or tally j 0) (get_or odd j 0)
    → r ≡ count_test q tally odd s
unfolding count_test
count_other q tally odd s j r l p e =
    let z : eqb s 0 ≡ false = ne_eqb s 0 (λ q. omega arith) in
    rw z (e ∙ ap (λ (i : ℕ). other_counts (get_or tally i 0) (get_or odd i 0)) p)

-- where all exist, a subject's test is that of its counts
pub counts_test : (q : ℕ) (b : List ℕ) (m : Matrix) (seen : ℕ → ℕ) (tally odd : List ℕ) → all m.rows (present q b m) ≡ true
    → all m.rows (count_test q tally odd) ≡ all m.rows (subject_test q b m seen tally odd)
unfolding count_test subject_test
counts_test q b m seen tally odd h = all_same m.rows _ _ (λ s l. rw (all_each m.rows (present q b m) h s l) refl)

-- a third test after two, as the code makes them: the two pass, or one of them fails
pub third_left : (x y z r : Bool) → (x && y) ≡ true → r ≡ z → r ≡ (x && (y && z))
third_left true true z r h e = e
third_left true false z r h e = absurd (false≢true h)
third_left false y z r h e = absurd (false≢true h)

pub third_out : (x y z : Bool) → (x && y) ≡ false → false ≡ (x && (y && z))
third_out true true z h = absurd (false≢true (sym h))
third_out true false z h = refl
third_out false y z h = refl

-- the subjects, by a list that has what is seen in their lanes
pub subjects_seen : {q : ℕ} → OneOrTwo q → (b : List ℕ) (m : Matrix) (seen tally odd : List ℕ) (room : ℕ) → Seen b m 0 (lanes_of q m.rows) room seen
    → all m.rows (subject_test q b m (λ j. get_or seen j 0) tally odd) ≡ all m.rows (subject_test q b m (seen_at b m) tally odd)
unfolding subject_test
subjects_seen {q} h b m seen tally odd room s =
    all_same m.rows _ _ (λ i l. ap (λ (v : ℕ). judged (present q b m i) i (get_or tally (last_lane q i) 0) (get_or odd (last_lane q i) 0) (eqb v 0 && zero_from b (row_place m i) (row_bytes m))) (same i l))
  where
    same : (i : ℕ) → i < m.rows → bits_in q (λ j. get_or seen j 0) i ≡ bits_in q (seen_at b m) i
    same i l =
        let e : 0 + i ≡ i = omega arith in
        let z : lanes_of q 0 ≡ 0 = unfold lanes_of in either_way h (λ u. u * 0 ≡ 0) refl refl in
        bits_moved h (λ j. get_or seen j 0) (seen_at b m) 0 i m.rows l (λ j k. s.value j k ∙ ap (λ (x : ℕ). seen_at b m (x + j)) (sym z)) ∙ ap (bits_in q (seen_at b m)) e

-- a row has the lanes of each subject's cell
pub cell_inside : {q : ℕ} → OneOrTwo q → (m : Matrix) (s : ℕ) → Celled q m → s < m.rows → 2 * last_lane q s + 1 < row_bytes m
cell_inside h m s c l = omega (arith, c.inside, last_inside h s m.rows l)

-- subject s: one that exists; an absent one, by the bytes of its row
module _ (q : ℕ) (b : List ℕ) (m : Matrix) (seen : ℕ → ℕ) (tally odd : List ℕ) (s : ℕ) where
  pub subject_here : (r : Bool) (j : ℕ) → j ≡ last_lane q s → present q b m s ≡ true → r ≡ counts s (get_or tally j 0) (get_or odd j 0)
      → r ≡ subject_test q b m seen tally odd s
  unfolding subject_test
  subject_here r j p h k = rw h (k ∙ ap (λ (i : ℕ). counts s (get_or tally i 0) (get_or odd i 0)) p)

  pub subject_absent : present q b m s ≡ false → (not (eqb s 0) && (unseen q seen s && zero_from b (row_place m s) (row_bytes m))) ≡ subject_test q b m seen tally odd s
  unfolding subject_test
  subject_absent h = rw h refl

-- the row is zero where its bytes are
pub row_zeros : (b : List ℕ) (m : Matrix) (s : ℕ) (row : List ℕ) → IsRow b m s row
    → all (length row) (λ j. eqb (get_or row j 0) 0) ≡ zero_from b (row_place m s) (row_bytes m)
row_zeros b m s row read =
    ap (λ (k : ℕ). all k (λ j. eqb (get_or row j 0) 0)) read.size ∙ all_same _ _ _ (λ j l. ap (λ (x : ℕ). eqb x 0) (read.value j l))
    ∙ sym (merged_zero (row_bytes m) (λ j. byte_at b m s j))
