-- The lists that the pass has filled hold what the tests of a matrix ask for.
use Prim.Native.Nat.{ℕ, zero, suc, ◌+◌, ◌*◌, ◌%◌, ◌≤◌, ◌<◌}
use Rattle.std.proofs.Common.{arith, sym, ◌∙◌, ap, inl, inr, eqb-true, eq-eqb, leb-true, le-leb}
use Rattle.std.specs.Prelude.{◌≡◌, refl, ◌⊎◌, Bool, true, false, not, ◌&&◌, ◌||◌, List, eqb, leb, get_or}
use Rattle.std.proofs.Math.Bool.{cond}
use Rattle.std.proofs.lemmas.Bool.{eqb-false}
use Rattle.matrix.specs.Bounded.{any, all, count}
use Rattle.matrix.specs.Bytes.{bit}
use Rattle.matrix.specs.Shaped.{Octets}
use Rattle.laws.specs.Tests.{way, same_test, and_left, and_right, and_both}
use Rattle.laws.specs.Bounded.{any_hit, any_same, all_same}
use Rattle.laws.specs.Counting.{some_count}
use Rattle.laws.specs.BitOps.{bit_or_lem}
use Rattle.codec.specs.Bits.{bit_zero}
use Rattle.lanes.specs.declared.Matrix.{Matrix}
use Rattle.lanes.specs.Lanes.{merged, paired, row_bytes, row_place, lane_at, upper_at, seen_at, Counted}
use Rattle.lanes.specs.LaneLaws.{lows_counts, low_bits, paired_bit, lane_bit}
use Rattle.lanes.specs.Zeros.{row_zero}
use Rattle.columns.specs.Cells.{OneOrTwo, most_counted, lanes_of, last_lane, own_bit, control_bit, zero_cell, last_inside, column_cells, row_cells}
use Rattle.columns.specs.Checks.{zero_from, judged, unseen, subject_test}
use Rattle.plains.specs.Checks.{plain_test, plain_bits}
use Rattle.owner_table.specs.Followed.{followed, followed_same}
use Rattle.owner_table.specs.Table.{reach, Inside}
use Rattle.validity.specs.Fast.{subject_right, plain_right, owner_mark, all_ascend, tests_pass}
use Rattle.validity.specs.Sound.{Framed}
use Rattle.validity.specs.Tested.{tests_framed, mark_inside}
use Rattle.validity.specs.Cells.{cell_bits}

-- a third test that is the same where the first two pass
and_last : (t u : Bool) {v w : Bool} → (t ≡ true → u ≡ true → v ≡ w) → (t && u && v) ≡ (t && u && w)
and_last true true h = h refl refl
and_last true false h = refl
and_last false u h = refl

-- what a tally tells of a owners and c that control: of U, and of another that at least one controls
root_tally : (a c : ℕ) → (eqb (a + 2 * c) 2 && eqb (c % 2) 1) ≡ (eqb a 0 && eqb c 1)
root_tally a c = same_test _ _ forth back
  where
    forth : (eqb (a + 2 * c) 2 && eqb (c % 2) 1) ≡ true → (eqb a 0 && eqb c 1) ≡ true
    forth h =
        let t : a + 2 * c ≡ 2 = eqb-true _ 2 (and_left _ _ h) in
        let o : c % 2 ≡ 1 = eqb-true _ 1 (and_right (eqb (a + 2 * c) 2) _ h) in
        and_both (eq-eqb a 0 (omega arith)) (eq-eqb c 1 (omega arith))

    back : (eqb a 0 && eqb c 1) ≡ true → (eqb (a + 2 * c) 2 && eqb (c % 2) 1) ≡ true
    back h =
        let p : a ≡ 0 = eqb-true a 0 (and_left _ _ h) in
        let q : c ≡ 1 = eqb-true c 1 (and_right (eqb a 0) _ h) in
        and_both (eq-eqb (a + 2 * c) 2 (omega arith)) (eq-eqb (c % 2) 1 (omega arith))

other_tally : (a c : ℕ) → 1 ≤ c → eqb (a + 2 * c) (cond (eqb (c % 2) 1) 3 5) ≡ (eqb a 1 && leb c 2)
other_tally a c some = go (way (eqb (c % 2) 1))
  where
    right : (t : ℕ) → (a + 2 * c ≡ t → (a ≡ 1) × (c ≤ 2)) → ((a ≡ 1) × (c ≤ 2) → a + 2 * c ≡ t) → eqb (a + 2 * c) t ≡ (eqb a 1 && leb c 2)
    right t f g =
        same_test _ _ (λ h. let w = f (eqb-true _ t h) in and_both (eq-eqb a 1 w.0) (le-leb c 2 w.1))
        (λ h. eq-eqb _ t (g (eqb-true a 1 (and_left _ _ h), leb-true c 2 (and_right (eqb a 1) _ h))))

    go : (eqb (c % 2) 1 ≡ true) ⊎ (eqb (c % 2) 1 ≡ false) → eqb (a + 2 * c) (cond (eqb (c % 2) 1) 3 5) ≡ (eqb a 1 && leb c 2)
    go (inl e) =
        let o : c % 2 ≡ 1 = eqb-true _ 1 e in
        rw e (right 3 (λ h. (omega arith, omega arith)) (λ h. let p : a ≡ 1 = h.0 in let q : c ≤ 2 = h.1 in omega arith))
    go (inr e) =
        let o : c % 2 ≡ 1 → ⊥ = eqb-false _ 1 e in
        rw e (right 5 (λ h. (omega arith, omega arith)) (λ h. let p : a ≡ 1 = h.0 in let q : c ≤ 2 = h.1 in omega arith))

-- one of the numbers that are merged has the bit
merged_bit : (k n : ℕ) (f : ℕ → ℕ) → bit k (merged n f) ≡ any n (λ i. bit k (f i))
unfolding merged any
merged_bit k zero f = bit_zero k
merged_bit k (suc n) f = bit_or_lem k (merged n f) (f n) ∙ ap (λ (t : Bool). t || bit k (f n)) (merged_bit k n f)

-- the owner of subject s, as the pass has left it
abbrev pub owner_at : ℕ → List ℕ → ℕ → ℕ
owner_at q marks s = get_or marks (last_lane q s) 0

-- The tests of the lists' entries, and of what is seen in the lanes.
module _ (b : List ℕ) (octets : Octets b) (m : Matrix) (k : ℕ) {q : ℕ} (cells : OneOrTwo q) (tally odd marks : List ℕ) (width : m.lanes ≡ lanes_of q k)
    (kept : Counted most_counted b m (lanes_of q m.rows) tally odd marks) (inside : m.rows ≤ k) where
  abbrev n : ℕ
  n = m.rows

  abbrev O : ℕ → ℕ → Bool
  O = own_bit q b m

  abbrev C : ℕ → ℕ → Bool
  C = control_bit q b m

  abbrev Z : ℕ → ℕ → Bool
  Z = zero_cell q b m

  -- a column of the matrix is zero where nothing is seen in it
  column_zero : (c : ℕ) → unseen q (seen_at b m) c ≡ all n (λ w. Z w c)
  column_zero c = column_cells cells n (λ w j. lane_at b m w j) c

  row_read : (s : ℕ) → zero_from b (row_place m s) (row_bytes m) ≡ all k (λ c. Z s c)
  row_read s = row_zero b m s ∙ ap (λ (x : ℕ). all x (λ j. eqb (lane_at b m s j) 0)) width ∙ row_cells cells k (λ j. lane_at b m s j)

  subject_passed : (s : ℕ) → s < n → subject_test q b m (seen_at b m) tally odd s ≡ subject_right n k O C Z s
  unfolding subject_test subject_right
  subject_passed s l =
      (λ i. judged (C s s) s (tally_read i) (odd_read i) (unseen q (seen_at b m) s && row_read s i))
      ∙ go (way (C s s)) (way (eqb s 0))
    where
      uppers : ℕ → ℕ
      uppers v = upper_at b m v (last_lane q s)

      owners : ℕ
      owners = count n (λ w. O w s)

      controllers : ℕ
      controllers = count n (λ w. C w s)

      zeros : Bool
      zeros = all k (λ c. Z s c)

      tally_read : get_or tally (last_lane q s) 0 ≡ owners + 2 * controllers
      tally_read = kept.sums.value (last_lane q s) (last_inside cells s n l) ∙ lows_counts n uppers

      odd_read : get_or odd (last_lane q s) 0 ≡ paired n uppers % 4
      odd_read = kept.parity.value (last_lane q s) (last_inside cells s n l)

      parity : bit 1 (paired n uppers % 4) ≡ eqb (controllers % 2) 1
      parity = (low_bits (paired n uppers)).1 ∙ paired_bit 1 n uppers

      go : (C s s ≡ true) ⊎ (C s s ≡ false) → (eqb s 0 ≡ true) ⊎ (eqb s 0 ≡ false)
          → judged (C s s) s (owners + 2 * controllers) (paired n uppers % 4) (unseen q (seen_at b m) s && zeros)
          ≡ cond (C s s) (cond (eqb s 0) (eqb owners 0 && eqb controllers 1) (eqb owners 1 && leb controllers 2))
          (not (eqb s 0) && (all n (λ w. Z w s) && zeros))
      go (inl e) (inl z) = rw (e, z, parity) (root_tally owners controllers)
      go (inl e) (inr z) = rw (e, z, parity) (other_tally owners controllers (some_count n _ (any_hit n _ s l e)))
      go (inr e) z = rw (e, column_zero s) refl

  plain_passed : (c : ℕ) → plain_test q (seen_at b m) c ≡ plain_right n O C Z c
  unfolding plain_right
  plain_passed c =
      let p : bit 8 (seen_at b m (last_lane q c)) ≡ any n (λ w. O w c) =
      merged_bit 8 n (λ w. lane_at b m w (last_lane q c)) ∙ any_same n _ _ (λ w h. lane_bit b octets m 0 w (last_lane q c)) in
      let q : bit 9 (seen_at b m (last_lane q c)) ≡ any n (λ w. C w c) =
      merged_bit 9 n (λ w. lane_at b m w (last_lane q c)) ∙ any_same n _ _ (λ w h. lane_bit b octets m 1 w (last_lane q c)) in
      plain_bits cells (seen_at b m) c ∙ (λ i. cond (p i) (not (q i)) (column_zero c i))

  owner_marked : (s : ℕ) → s < n → owner_at q marks s ≡ owner_mark n O s
  owner_marked s l = kept.owner.value (last_lane q s) (last_inside cells s n l)

  module _ (p : ℕ) (wide : k ≡ n + p) (some : 0 < n) where
    abbrev Here : Type 0
    Here = Framed n (n + p) O C Z

    marks_below : Here → (s : ℕ) → s < n → owner_mark n O s < n
    marks_below = mark_inside n p O C Z (cell_bits cells b m) some

    subjects_passed : all n (subject_test q b m (seen_at b m) tally odd) ≡ all n (subject_right n (n + p) O C Z)
    subjects_passed = all_same n _ _ subject_passed ∙ ap (λ (i : ℕ). all n (subject_right n i O C Z)) wide

    plains_passed : all p (λ i. plain_test q (seen_at b m) (n + i)) ≡ all p (λ i. plain_right n O C Z (n + i))
    plains_passed = all_same p _ _ (λ i l. plain_passed (n + i))

    -- where the tests of all columns pass, every owner that is found is a subject
    pub owners_inside : all n (subject_test q b m (seen_at b m) tally odd) ≡ true → all p (λ i. plain_test q (seen_at b m) (n + i)) ≡ true → Inside n (owner_at q marks)
    owners_inside g h =
        let f : Here = tests_framed n p _ _ _ (cell_bits cells b m) some (sym subjects_passed ∙ g) (sym plains_passed ∙ h) in
        record { below = λ s l. rw (owner_marked s l) (marks_below f s l) }

    ascend_passed : Here → all n (λ s. eqb (followed (owner_at q marks) reach s) 0) ≡ all_ascend n O
    ascend_passed f =
        all_same n _ _ (λ s l. ap (λ (x : ℕ). eqb x 0)
        (followed_same (owner_at q marks) (owner_mark n O) (λ s. s < n) owner_marked (marks_below f) reach s l))

    -- what the code tests is what is to be tested
    pub all_passed :
        (all n (subject_test q b m (seen_at b m) tally odd) && all p (λ i. plain_test q (seen_at b m) (n + i)) && all n (λ s. eqb (followed (owner_at q marks) reach s) 0))
        ≡ tests_pass n p O C Z
    all_passed =
        (λ i. subjects_passed i && plains_passed i && all n (λ s. eqb (followed (owner_at q marks) reach s) 0))
        ∙ and_last _ _ (λ g h. ascend_passed (tests_framed n p _ _ _ (cell_bits cells b m) some g h))
