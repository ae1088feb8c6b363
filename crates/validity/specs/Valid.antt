-- The definition's test of a record's matrix is the tests of one pass over its bytes.
use Rattle.std.specs.Prelude.{ℕ, zero, suc, ◌≤◌, ◌<◌, ◌≡◌, refl, ◌⊎◌, Bool, true, false, cond, not, ◌&&◌, ◌||◌, List, eqb, ltb, leb}
use Rattle.std.proofs.Common.{arith, sym, ◌∙◌, ap, inl, inr, ltb-true, ltb-false}
use Rattle.matrix.specs.declared.Name.{Name}
use Rattle.matrix.specs.declared.Name.TheVariants.{Subject, Plain}
use Rattle.matrix.specs.Bounded.{least}
use Rattle.matrix.specs.Shape.{shape_of, most_subjects, columns}
use Rattle.matrix.specs.Shaped.{Octets}
use Rattle.matrix.specs.Reading.{state_of}
use Rattle.matrix.specs.Record.{absent_zero, plain_uncontrolled, root_right, one_owner_each, climb, all_rooted, valid_matrix}
use Rattle.laws.specs.Tests.{way}
use Rattle.laws.specs.Bounded.{all_same, count_same, least_same}
use Rattle.owner_table.specs.Followed.{followed}
use Rattle.validity.specs.Fast.{owner_step, zero_absent, plain_free, root_alone, one_each, ascends, five_hold, tests_pass}
use Rattle.validity.specs.Tested.{tests_five}
use Rattle.columns.specs.Cells.{cell_lanes, matrix_of, own_bit, control_bit, zero_cell, one_or_two}
use Rattle.validity.specs.Cells.{own_subject, control_subject, control_plain, empty_read, column_read, cell_bits}

-- climbing owners is following them, where the subjects below n have the same owners
climb_follows : (n : ℕ) (owns : ℕ → Name → Bool) (O : ℕ → ℕ → Bool) → ((w s : ℕ) → w < n → s < n → owns w (Subject s) ≡ O w s)
    → (j s : ℕ) → s < n → climb n owns j s ≡ followed (owner_step n O) j s
unfolding climb followed
climb_follows n owns O h zero s l = refl
climb_follows n owns O h (suc j) s l =
    ap (λ (v : ℕ). climb n owns j (cond (ltb v n) v s)) (least_same n (λ w. owns w (Subject s)) (λ w. O w s) (λ w r. h w s r l))
    ∙ climb_follows n owns O h j (owner_step n O s) (inside (way (ltb (least n (λ w. O w s)) n)))
  where
    inside : (ltb (least n (λ w. O w s)) n ≡ true) ⊎ (ltb (least n (λ w. O w s)) n ≡ false) → owner_step n O s < n
    inside (inl q) = rw q (ltb-true _ n q)
    inside (inr q) = rw q l

module _ (b : List ℕ) (octets : Octets b) where
  abbrev O : ℕ → ℕ → Bool
  O = own_bit (cell_lanes (shape_of b)) b (matrix_of (shape_of b))

  abbrev C : ℕ → ℕ → Bool
  C = control_bit (cell_lanes (shape_of b)) b (matrix_of (shape_of b))

  abbrev Z : ℕ → ℕ → Bool
  Z = zero_cell (cell_lanes (shape_of b)) b (matrix_of (shape_of b))

  abbrev n : ℕ
  n = (shape_of b).n

  absent_same : absent_zero (shape_of b) (state_of b) ≡ zero_absent n (columns (shape_of b)) O C Z
  absent_same =
      all_same n _ _ (λ w l. all_same (columns (shape_of b)) _ _ (λ c m.
      three (empty_read b octets w c l m) (control_subject b octets w w l l) (column_read b octets c m)))
    where
      three : {z z' a a' e e' : Bool} → z ≡ z' → a ≡ a' → e ≡ e' → (z || a && e) ≡ (z' || a' && e')
      three p q r = λ i. p i || q i && r i

  plain_same : plain_uncontrolled (shape_of b) (state_of b) ≡ plain_free n (columns (shape_of b)) C
  plain_same = all_same n _ _ (λ w l. all_same (columns (shape_of b)) _ _ (λ c m. cell w c l m (way (ltb c n))))
    where
      cell : (w c : ℕ) → w < n → c < columns (shape_of b) → (ltb c n ≡ true) ⊎ (ltb c n ≡ false)
          → (ltb c n || not ((state_of b).controls w (Plain c))) ≡ (ltb c n || not (C w c))
      cell w c l m (inl q) = rw q refl
      cell w c l m (inr q) = ap (λ (t : Bool). ltb c n || not t) (control_plain b octets w c l (ltb-false c n q) m)

  root_same : 0 < n → root_right (shape_of b) (state_of b) ≡ root_alone n O C
  root_same some =
      λ i. control_subject b octets 0 0 some some i
      && all_same n (λ w. not ((state_of b).owns w (Subject 0)) && (eqb w 0 || not ((state_of b).controls w (Subject 0)))) (λ w. not (O w 0) && (eqb w 0 || not (C w 0)))
      (λ w l j. not (own_subject b octets w 0 l some j) && (eqb w 0 || not (control_subject b octets w 0 l some j))) i

  one_same : one_owner_each (shape_of b) (state_of b) ≡ one_each n O C
  one_same =
      all_same n _ _ (λ s l i. eqb s 0 || not (control_subject b octets s s l l i)
      || eqb (count_same n (λ w. (state_of b).owns w (Subject s)) (λ w. O w s) (λ w r. own_subject b octets w s r l) i) 1
      && leb (count_same n (λ w. (state_of b).controls w (Subject s) && not (eqb w s)) (λ w. C w s && not (eqb w s)) (λ w r j. control_subject b octets w s r l j && not (eqb w s)) i) 1)

  rooted_same : all_rooted (shape_of b) (state_of b) ≡ ascends n O C
  rooted_same =
      all_same n _ _ (λ s l i. not (control_subject b octets s s l l i)
      || eqb (climb_follows n (state_of b).owns O (λ w v r m. own_subject b octets w v r m) n s l i) 0)

  valid_five : 0 < n → valid_matrix (shape_of b) (state_of b) ≡ five_hold n (columns (shape_of b)) O C Z
  unfolding valid_matrix
  valid_five some = λ i. absent_same i && plain_same i && root_same some i && one_same i && rooted_same i

  -- the matrix of a record is valid just where the tests of one pass over its bytes pass
  pub valid_tests : 0 < (shape_of b).n → (shape_of b).n ≤ most_subjects
      → tests_pass (shape_of b).n (shape_of b).p (own_bit (cell_lanes (shape_of b)) b (matrix_of (shape_of b))) (control_bit (cell_lanes (shape_of b)) b (matrix_of (shape_of b))) (zero_cell (cell_lanes (shape_of b)) b (matrix_of (shape_of b))) ≡ valid_matrix (shape_of b) (state_of b)
  valid_tests some most = tests_five n (shape_of b).p O C Z (cell_bits (one_or_two b) b (matrix_of (shape_of b))) some (omega arith) ∙ sym (valid_five some)
