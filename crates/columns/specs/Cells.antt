-- The cells of a record as lanes. A cell is one lane or two, in the order of its bytes, and its last lane has own and control, in the upper
-- byte. The number q of a cell's lanes is an argument; what it may be is known here alone.
use Prim.Native.Nat.{ℕ, suc, ◌+◌, ◌-◌, ◌*◌, ◌/◌, ◌%◌, ◌^◌, ◌≤◌, ◌<◌}
use Rattle.std.proofs.Common.{le_refl, ◌∙◌, inl, inr, ⊎_elim, eqb-true, eq-eqb}
use native.Mathlib.Omega.{arith}
use Rattle.std.specs.Prelude.{◌≡◌, refl, ◌⊎◌, Bool, false, ◌&&◌, List}
use Rattle.std.proofs.Math.Path.{sym, ap, ap₂, subst}
use Rattle.std.proofs.Math.Bool.{true}
use Rattle.std.specs.Int.Bits.{bit_or}
use Rattle.std.proofs.Math.Dec.{eqb}
use Rattle.std.proofs.Math.ListN.{get_or}
use Rattle.std.proofs.lemmas.Bool.{eqb-false}
use Rattle.matrix.specs.Bounded.{all}
use Rattle.matrix.specs.Bytes.{number_at, bit}
use Rattle.matrix.specs.declared.Shape.{Shape}
use Rattle.matrix.specs.Shape.{shape_of, most_subjects, most_plain, columns, cell_place, size_of}
use Rattle.matrix.specs.Reading.{cell_at}
use Rattle.laws.specs.Tests.{way, same_test, and_left, and_right, and_both}
use Rattle.laws.specs.Bounded.{all_same, all_each, each_all}
use Rattle.codec.specs.Bits.{bit_low}
use Rattle.codec.specs.Numbers.{two_read, four_read}
use Rattle.codec.specs.ShapeRight.{TwoOrFour}
use Rattle.codec.proofs.ShapeRight.{widths}
use Rattle.lanes.specs.declared.Matrix.{Matrix}
use Rattle.lanes.specs.Lanes.{merged, row_place, lane_in, lane_at, bit_in}
use Rattle.lanes.specs.Zeros.{or_zero, merged_zero}

-- a cell has one lane or two
abbrev pub OneOrTwo : ℕ → Type 0
OneOrTwo q = (q ≡ 1) ⊎ (q ≡ 2)

abbrev pub most_lanes : ℕ
most_lanes = 2

-- what holds for one lane and for two
pub either_way : {q : ℕ} → OneOrTwo q → (P : ℕ → Type 0) → P 1 → P 2 → P q
either_way {q} h P one two = ⊎_elim (λ (e : q ≡ 1). subst P (sym e) one) (λ (e : q ≡ 2). subst P (sym e) two) h

-- the lanes of a cell of this shape
abbrev pub cell_lanes : Shape → ℕ
cell_lanes f = f.width / 2

-- the lanes of the most columns, and of the most subjects' columns
abbrev pub most_columns : ℕ
most_columns = most_subjects + most_plain

abbrev pub most_counted : ℕ
most_counted = most_lanes * most_subjects

-- the lanes of k cells; the last lane of cell c; the bits of cell c, in its first lane and its last, where f are the lanes
unfoldable pub lanes_of : ℕ → ℕ → ℕ
lanes_of q k = q * k

unfoldable pub last_lane : ℕ → ℕ → ℕ
last_lane q c = q * c + (q - 1)

unfoldable pub bits_in : ℕ → (ℕ → ℕ) → ℕ → ℕ
bits_in q f c = bit_or (f (lanes_of q c)) (f (last_lane q c))

-- the lanes of a record of this shape
abbrev pub matrix_of : Shape → Matrix
matrix_of f = record { first = f.first; rows = f.n; lanes = lanes_of (cell_lanes f) (columns f) }

-- the own and control bits, and whether a cell is zero, by row and column
abbrev pub own_bit : ℕ → List ℕ → Matrix → ℕ → ℕ → Bool
own_bit q b m w c = bit_in b m 0 (last_lane q c) w

abbrev pub control_bit : ℕ → List ℕ → Matrix → ℕ → ℕ → Bool
control_bit q b m w c = bit_in b m 1 (last_lane q c) w

abbrev pub zero_cell : ℕ → List ℕ → Matrix → ℕ → ℕ → Bool
zero_cell q b m w c = eqb (bits_in q (λ j. lane_at b m w j) c) 0

-- two tests that pass for all
both_all : (n : ℕ) (f g : ℕ → Bool) → (all n f && all n g) ≡ all n (λ i. f i && g i)
both_all n f g =
    same_test _ _ (λ t. each_all n _ (λ i l. and_both (all_each n f (and_left _ _ t) i l) (all_each n g (and_right (all n f) _ t) i l)))
    (λ t. and_both (each_all n f (λ i l. and_left _ _ (all_each n (λ i. f i && g i) t i l))) (each_all n g (λ i l. and_right (f i) _ (all_each n (λ i. f i && g i) t i l))))

-- ---- where the lanes of cells lie

module _ {q : ℕ} (h : OneOrTwo q) where
  pub lanes_some : 1 ≤ q
  lanes_some = either_way h (λ u. 1 ≤ u) (omega arith) (omega arith)

  pub lanes_few : q ≤ most_lanes
  lanes_few = either_way h (λ u. u ≤ most_lanes) (omega arith) (omega arith)

  pub lanes_most : (k : ℕ) → lanes_of q k ≤ most_lanes * k
  unfolding lanes_of
  lanes_most k = either_way h (λ u. u * k ≤ most_lanes * k) (omega arith) (omega arith)

  pub lanes_more : (n k : ℕ) → n ≤ k → lanes_of q n ≤ lanes_of q k
  unfolding lanes_of
  lanes_more n k l = either_way h (λ u. u * n ≤ u * k) (omega arith) (omega arith)

  pub lanes_added : (a i : ℕ) → lanes_of q a + lanes_of q i ≡ lanes_of q (a + i)
  unfolding lanes_of
  lanes_added a i = either_way h (λ u. u * a + u * i ≡ u * (a + i)) (omega arith) (omega arith)

  pub last_added : (a i : ℕ) → lanes_of q a + last_lane q i ≡ last_lane q (a + i)
  unfolding lanes_of last_lane
  last_added a i = either_way h (λ u. u * a + (u * i + (u - 1)) ≡ u * (a + i) + (u - 1)) (omega arith) (omega arith)

  pub first_inside : (c k : ℕ) → c < k → lanes_of q c < lanes_of q k
  unfolding lanes_of
  first_inside c k l = either_way h (λ u. u * c < u * k) (omega arith) (omega arith)

  pub last_inside : (c k : ℕ) → c < k → last_lane q c < lanes_of q k
  unfolding lanes_of last_lane
  last_inside c k l = either_way h (λ u. u * c + (u - 1) < u * k) (omega arith) (omega arith)

  pub first_last : (c : ℕ) → lanes_of q c ≤ last_lane q c
  unfolding lanes_of last_lane
  first_last c = omega arith

  -- the lists have room
  pub counted_most : (n : ℕ) → n ≤ most_subjects → lanes_of q n ≤ most_counted
  counted_most n l = omega (arith, lanes_most n)

  pub last_counted : (s j : ℕ) → s < most_subjects → j ≡ last_lane q s → j < most_counted
  last_counted s j l e = omega (arith, last_inside s _ l, counted_most _ (le_refl most_subjects))

  -- ---- the bits of a cell

  -- a cell is zero where its lanes are
  pub bits_none : (f : ℕ → ℕ) (c : ℕ) → eqb (bits_in q f c) 0 ≡ (eqb (f (lanes_of q c)) 0 && eqb (f (last_lane q c)) 0)
  unfolding bits_in
  bits_none f c = or_zero (f (lanes_of q c)) (f (last_lane q c))

  pub bits_zero : (f : ℕ → ℕ) (c : ℕ) → eqb (bits_in q f c) 0 ≡ true → f (last_lane q c) ≡ 0
  bits_zero f c z = eqb-true (f (last_lane q c)) 0 (and_right (eqb (f (lanes_of q c)) 0) _ (sym (bits_none f c) ∙ z))

  -- cell i of lanes that are those of a row from cell a on
  pub bits_moved : (f g : ℕ → ℕ) (a i k : ℕ) → i < k → ((j : ℕ) → j < lanes_of q k → f j ≡ g (lanes_of q a + j)) → bits_in q f i ≡ bits_in q g (a + i)
  unfolding bits_in
  bits_moved f g a i k l e =
      ap₂ (λ (x y : ℕ). bit_or x y) (e (lanes_of q i) (first_inside i k l) ∙ ap g (lanes_added a i)) (e (last_lane q i) (last_inside i k l) ∙ ap g (last_added a i))

  -- a column is zero where its cells are, and a row of lanes where its cells are
  pub column_cells : (n : ℕ) (f : ℕ → ℕ → ℕ) (c : ℕ) → eqb (bits_in q (λ j. merged n (λ w. f w j)) c) 0 ≡ all n (λ w. eqb (bits_in q (λ j. f w j) c) 0)
  column_cells n f c =
      bits_none (λ j. merged n (λ w. f w j)) c
      ∙ ap₂ (λ (x y : Bool). x && y) (merged_zero n (λ w. f w (lanes_of q c))) (merged_zero n (λ w. f w (last_lane q c)))
      ∙ both_all n _ _ ∙ all_same n _ _ (λ w l. sym (bits_none (λ j. f w j) c))

  pub row_cells : (k : ℕ) (f : ℕ → ℕ) → all (lanes_of q k) (λ j. eqb (f j) 0) ≡ all k (λ c. eqb (bits_in q f c) 0)
  row_cells k f =
      same_test _ _
      (λ t. each_all k _ (λ c l. bits_none f c ∙ and_both (all_each (lanes_of q k) (λ j. eqb (f j) 0) t _ (first_inside c k l)) (all_each (lanes_of q k) (λ j. eqb (f j) 0) t _ (last_inside c k l))))
      (λ t. each_all (lanes_of q k) _ (λ j l. in_cell j l (λ c i. sym (bits_none f c) ∙ all_each k _ t c i)))
    where
      -- each lane is the first or the last one of its cell
      in_cell : (j : ℕ) → j < lanes_of q k → ((c : ℕ) → c < k → (eqb (f (lanes_of q c)) 0 && eqb (f (last_lane q c)) 0) ≡ true) → eqb (f j) 0 ≡ true
      in_cell j =
          unfold lanes_of last_lane in
          either_way h (λ u. j < u * k → ((c : ℕ) → c < k → (eqb (f (u * c)) 0 && eqb (f (u * c + (u - 1))) 0) ≡ true) → eqb (f j) 0 ≡ true) one two
        where
          one : j < 1 * k → ((c : ℕ) → c < k → (eqb (f (1 * c)) 0 && eqb (f (1 * c + (1 - 1))) 0) ≡ true) → eqb (f j) 0 ≡ true
          one l g = let e : 1 * j ≡ j = omega arith in subst (λ (i : ℕ). eqb (f i) 0 ≡ true) e (and_left _ _ (g j (omega arith)))

          two : j < 2 * k → ((c : ℕ) → c < k → (eqb (f (2 * c)) 0 && eqb (f (2 * c + (2 - 1))) 0) ≡ true) → eqb (f j) 0 ≡ true
          two l g =
              ⊎_elim
              (λ (t : eqb (j % 2) 0 ≡ true).
              let z = eqb-true (j % 2) 0 t in
              let e : 2 * (j / 2) ≡ j = omega arith in
              subst (λ (i : ℕ). eqb (f i) 0 ≡ true) e (and_left _ _ (g (j / 2) (omega arith))))
              (λ (t : eqb (j % 2) 0 ≡ false).
              let z = eqb-false (j % 2) 0 t in
              let e : 2 * (j / 2) + (2 - 1) ≡ j = omega (arith, z) in
              subst (λ (i : ℕ). eqb (f i) 0 ≡ true) e (and_right (eqb (f (2 * (j / 2))) 0) _ (g (j / 2) (omega arith)))) (way (eqb (j % 2) 0))

-- ---- the cells of a record

-- a cell of two bytes has one lane, and one of four has two
pub lanes_of_width : (f : Shape) → TwoOrFour f.width → OneOrTwo (cell_lanes f) × (f.width ≡ 2 * cell_lanes f)
lanes_of_width f h =
    ⊎_elim (λ (e : f.width ≡ 2). (inl (omega arith), omega arith)) (λ (e : f.width ≡ 4). (inr (omega arith), omega arith)) h

module _ (b : List ℕ) where
  abbrev f : Shape
  f = shape_of b

  abbrev m : Matrix
  m = matrix_of f

  abbrev q : ℕ
  q = cell_lanes f

  pub one_or_two : OneOrTwo q
  unfolding shape_of
  one_or_two = (lanes_of_width f (widths (get_or b 0 0))).0

  twice : f.width ≡ 2 * q
  unfolding shape_of
  twice = (lanes_of_width f (widths (get_or b 0 0))).1

  -- the place of a cell is that of its first lane
  cell_place_lem : (w c : ℕ) → cell_place f w c ≡ row_place m w + 2 * lanes_of q c
  unfolding lanes_of
  cell_place_lem w c =
      ap (λ (x : ℕ). f.first + x * (w * columns f + c)) twice
      ∙ either_way one_or_two (λ u. f.first + 2 * u * (w * columns f + c) ≡ f.first + w * (2 * (u * columns f)) + 2 * (u * c)) (place 1) (place 2)
    where
      place : (u : ℕ) → f.first + 2 * u * (w * columns f + c) ≡ f.first + w * (2 * (u * columns f)) + 2 * (u * c)
      place u = omega arith

  -- the places of its first lane, of its last lane and of its last byte
  first_place : (w c : ℕ) → row_place m w + 2 * lanes_of q c ≡ cell_place f w c
  first_place w c = sym (cell_place_lem w c)

  last_place : (w c : ℕ) → row_place m w + 2 * last_lane q c ≡ cell_place f w c + (f.width - 2)
  unfolding lanes_of last_lane
  last_place w c = omega (arith, cell_place_lem w c, twice, lanes_some one_or_two)

  byte_place : (w c : ℕ) → row_place m w + (2 * last_lane q c + 1) ≡ cell_place f w c + (f.width - 1)
  byte_place w c = omega (arith, last_place w c, twice, lanes_some one_or_two)

  -- two bytes are zero as a number and as a lane
  lane_none : (at : ℕ) → eqb (number_at b at 2) 0 ≡ eqb (lane_in b at) 0
  lane_none at =
      same_test _ _ (λ t. eq-eqb (lane_in b at) 0 (omega (arith, eqb-true (number_at b at 2) 0 t, two_read b at)))
      (λ t. eq-eqb (number_at b at 2) 0 (omega (arith, eqb-true (lane_in b at) 0 t, two_read b at)))

  -- the cell is zero where its lanes are
  number_none : (at : ℕ) → eqb (number_at b at f.width) 0 ≡ (eqb (lane_in b at) 0 && eqb (lane_in b (at + (f.width - 2))) 0)
  number_none at = ⊎_elim one two width_is
    where
      width_is : TwoOrFour f.width
      width_is = unfold shape_of in widths (get_or b 0 0)

      Claim : ℕ → Type 0
      Claim w = eqb (number_at b at w) 0 ≡ (eqb (lane_in b at) 0 && eqb (lane_in b (at + (w - 2))) 0)

      twofold : (t : Bool) → t ≡ (t && t)
      twofold true = refl
      twofold false = refl

      one : f.width ≡ 2 → Claim f.width
      one e =
          let z : at + (2 - 2) ≡ at = omega arith in
          subst Claim (sym e) (lane_none at ∙ twofold _ ∙ ap (λ (i : ℕ). eqb (lane_in b at) 0 && eqb (lane_in b i) 0) (sym z))

      parts : (x y : ℕ) → eqb (x * 65536 + y) 0 ≡ (eqb x 0 && eqb y 0)
      parts x y =
          same_test _ _ (λ t. let z = eqb-true (x * 65536 + y) 0 t in and_both (eq-eqb x 0 (omega arith)) (eq-eqb y 0 (omega arith)))
          (λ t. eq-eqb (x * 65536 + y) 0 (omega (arith, eqb-true x 0 (and_left _ _ t), eqb-true y 0 (and_right (eqb x 0) _ t))))

      two : f.width ≡ 4 → Claim f.width
      two e =
          subst Claim (sym e)
          (ap (λ (x : ℕ). eqb x 0) (four_read b at) ∙ parts (number_at b at 2) (number_at b (at + 2) 2) ∙ ap₂ (λ (x y : Bool). x && y) (lane_none at) (lane_none (at + 2)))

  pub cell_zero : (w c : ℕ) → eqb (cell_at b w c) 0 ≡ zero_cell q b m w c
  unfolding cell_at
  cell_zero w c =
      number_none (cell_place f w c)
      ∙ ap₂ (λ (x y : ℕ). eqb (lane_in b x) 0 && eqb (lane_in b y) 0) (sym (first_place w c)) (sym (last_place w c))
      ∙ sym (bits_none one_or_two (λ j. lane_at b m w j) c)

  -- a low bit of the cell, own or control
  pub cell_bit : (i h w c : ℕ) → 2 ^ (suc h + i) ≡ 256 → bit i (cell_at b w c) ≡ bit_in b m i (last_lane q c) w
  unfolding cell_at
  cell_bit i h w c e =
      let more : f.width ≡ suc (f.width - 1) = omega (arith, twice, lanes_some one_or_two) in
      ap (λ (k : ℕ). bit i (number_at b (cell_place f w c) k)) more ∙ last (cell_place f w c) (f.width - 1) ∙ ap (λ (k : ℕ). bit i (get_or b k 0)) (sym (byte_place w c))
    where
      last : (at k : ℕ) → bit i (number_at b at (suc k)) ≡ bit i (get_or b (at + k) 0)
      last at k = unfold number_at in subst (λ (x : ℕ). bit i (number_at b at k * x + get_or b (at + k) 0) ≡ bit i (get_or b (at + k) 0)) e (bit_low i h (number_at b at k) (get_or b (at + k) 0))

  -- the record's bytes are its header and its rows
  pub rows_size : size_of f ≡ row_place m f.n
  unfolding lanes_of
  rows_size =
      ap (λ (x : ℕ). f.first + x * (f.n * columns f)) twice
      ∙ either_way one_or_two (λ u. f.first + 2 * u * (f.n * columns f) ≡ f.first + f.n * (2 * (u * columns f))) (omega arith) (omega arith)
