-- What the code tests, of lanes: q is the number of a cell's lanes, `seen` what is seen in each lane, and `tally` and `odd` are the lists that the
-- pass over the subjects' lanes has filled.
use Rattle.std.specs.Prelude.{ℕ, ◌+◌, ◌*◌, ◌≤◌, ◌<◌, ◌≡◌, Bool, cond, not, ◌&&◌, List, eqb, length, get_or}
use Rattle.matrix.specs.Bytes.{bit}
use Rattle.matrix.specs.Shape.{most_subjects}
use Rattle.lanes.specs.declared.Matrix.{Matrix}
use Rattle.lanes.specs.Lanes.{merged, row_bytes, row_place, byte_at}
use Rattle.columns.specs.Cells.{lanes_of, last_lane, bits_in, control_bit}

-- subject s exists: its own cell has control
abbrev pub present : ℕ → List ℕ → Matrix → ℕ → Bool
present q b m s = control_bit q b m s s

-- the m bytes from `at` on have no bit
abbrev pub zero_from : List ℕ → ℕ → ℕ → Bool
zero_from b at m = eqb (merged m (λ j. get_or b (at + j) 0)) 0

-- The counts of U, and those of another subject that exists: `tally` is the number of its owners and twice that of those that control it,
-- and bit 1 of `odd` says whether an odd number control it.
abbrev pub root_counts : ℕ → ℕ → Bool
root_counts tally odd = eqb tally 2 && bit 1 odd

abbrev pub other_counts : ℕ → ℕ → Bool
other_counts tally odd = eqb tally (cond (bit 1 odd) 3 5)

abbrev pub counts : ℕ → ℕ → ℕ → Bool
counts s tally odd = cond (eqb s 0) (root_counts tally odd) (other_counts tally odd)

unfoldable pub count_test : ℕ → List ℕ → List ℕ → ℕ → Bool
count_test q tally odd s = counts s (get_or tally (last_lane q s) 0) (get_or odd (last_lane q s) 0)

-- nothing is seen in column c
abbrev pub unseen : ℕ → (ℕ → ℕ) → ℕ → Bool
unseen q seen c = eqb (bits_in q seen c) 0

-- a subject by whether it exists, by its counts, and by whether its column and row are zero
abbrev pub judged : Bool → ℕ → ℕ → ℕ → Bool → Bool
judged here s tally odd zeros = cond here (counts s tally odd) (not (eqb s 0) && zeros)

-- subject s, whose row of m bytes begins at `at`
abbrev pub subject_at : ℕ → List ℕ → ℕ → (ℕ → ℕ) → List ℕ → List ℕ → ℕ → ℕ → Bool
subject_at q b m seen tally odd s at =
    judged (bit 1 (get_or b (at + (2 * last_lane q s + 1)) 0)) s (get_or tally (last_lane q s) 0) (get_or odd (last_lane q s) 0) (unseen q seen s && zero_from b at m)

unfoldable pub subject_test : ℕ → List ℕ → Matrix → (ℕ → ℕ) → List ℕ → List ℕ → ℕ → Bool
subject_test q b m seen tally odd s = subject_at q b (row_bytes m) seen tally odd s (row_place m s)

-- lanes of a record's cells, q each: a row has a cell for each subject, and there are as many rows
pub record Celled (q : ℕ) (m : Matrix) : Type 0 where
  pub subjects : m.rows ≤ most_subjects
  pub inside : lanes_of q m.rows ≤ m.lanes

-- the bytes of row s
pub record IsRow (b : List ℕ) (m : Matrix) (s : ℕ) (row : List ℕ) : Type 0 where
  pub size : length row ≡ row_bytes m
  pub value : (j : ℕ) → j < row_bytes m → get_or row j 0 ≡ byte_at b m s j
