-- What is read of a record's state, by the lanes of its cells.
use Rattle.std.specs.Prelude.{ℕ, suc, ◌+◌, ◌^◌, ◌≤◌, ◌<◌, ◌≡◌, ◌⊎◌, true, false, not, List, eqb, ltb, get_or}
use Rattle.std.proofs.Common.{arith, sym, ◌∙◌, ap, inl, inr, le-ltb, ltb-true, ltb-false}
use Rattle.std.proofs.Math.Path.{refl}
use Rattle.std.proofs.Math.Logic.{⊎_elim}
use Rattle.std.proofs.Math.Bool.{not-not}
use Rattle.matrix.specs.declared.Name.TheVariants.{Subject, Plain}
use Rattle.matrix.specs.declared.Right.TheVariants.{Own, Control}
use Rattle.matrix.specs.Names.{name_of}
use Rattle.matrix.specs.Rights.{right_of}
use Rattle.matrix.specs.State.{has, exists_name}
use Rattle.matrix.specs.Bytes.{bit}
use Rattle.matrix.specs.Shape.{shape_of, width_of, columns, bits_of}
use Rattle.matrix.specs.Shaped.{Octets}
use Rattle.matrix.specs.Reading.{state_of, cell_at, bit_at}
use Rattle.matrix.specs.Record.{empty_cell}
use Rattle.laws.specs.Tests.{way}
use Rattle.laws.specs.Bounded.{any_same}
use Rattle.codec.specs.Bits.{bit_zero, any_bit}
use Rattle.codec.specs.Codes.{code_of_right_of}
use Rattle.codec.specs.Cells.{cell_below}
use Rattle.codec.specs.Columns.{subject_named}
use Rattle.codec.proofs.ShapeRight.{widths}
use Rattle.codec.specs.Update.{has_state, bit_at_cell}
use Rattle.lanes.specs.declared.Matrix.{Matrix}
use Rattle.lanes.specs.Lanes.{lane_at, upper_at, bit_in}
use Rattle.lanes.specs.LaneLaws.{upper_byte}
use Rattle.columns.specs.Cells.{OneOrTwo, cell_lanes, last_lane, matrix_of, own_bit, control_bit, zero_cell, bits_zero, cell_zero, cell_bit}
use Rattle.validity.specs.Fast.{column_exists}
use Rattle.validity.specs.Sound.{Bits}

-- a zero cell has neither bit
pub cell_bits : {q : ℕ} → OneOrTwo q → (b : List ℕ) (m : Matrix) → Bits (own_bit q b m) (control_bit q b m) (zero_cell q b m)
cell_bits {q} h b m = record { own = λ w c z. ap (bit 0) (upper w c z) ∙ bit_zero 0; control = λ w c z. ap (bit 1) (upper w c z) ∙ bit_zero 1 }
  where
    upper : (w c : ℕ) → zero_cell q b m w c ≡ true → upper_at b m w (last_lane q c) ≡ 0
    upper w c z =
        let e : lane_at b m w (last_lane q c) ≡ 0 = bits_zero h (λ j. lane_at b m w j) c z in
        omega (arith, upper_byte b m w (last_lane q c))

module _ (b : List ℕ) (octets : Octets b) where
  abbrev m : Matrix
  m = matrix_of (shape_of b)

  abbrev q : ℕ
  q = cell_lanes (shape_of b)

  -- own and control are bits of every cell
  low_room : (i : ℕ) → i < 2 → i < bits_of (shape_of b)
  unfolding shape_of
  low_room i l = ⊎_elim (λ (e : width_of (get_or b 0 0) ≡ 2). omega arith) (λ (e : width_of (get_or b 0 0) ≡ 4). omega arith) (widths (get_or b 0 0))

  -- a low bit of a cell of the record, own or control
  low_bit : (i h w c : ℕ) → 2 ^ (suc h + i) ≡ 256 → i < bits_of (shape_of b) → w < (shape_of b).n → c < columns (shape_of b)
      → bit_at b i w (name_of (shape_of b).n c) ≡ bit_in b m i (last_lane q c) w
  low_bit i h w c e l r k = bit_at_cell b w c r k i l ∙ cell_bit b i h w c e

  plain_name : (n c : ℕ) → n ≤ c → name_of n c ≡ Plain c
  plain_name n c l = rw (le-ltb c n l) refl

  -- the state's bits at a name of the record
  pub own_read : (w c : ℕ) → w < (shape_of b).n → c < columns (shape_of b) → (state_of b).owns w (name_of (shape_of b).n c) ≡ own_bit q b m w c
  unfolding shape_of
  own_read w c r k = has_state b Own w (name_of (shape_of b).n c) ∙ low_bit 0 7 w c refl (low_room 0 (omega arith)) r k

  pub control_read : (w c : ℕ) → w < (shape_of b).n → c < columns (shape_of b) → (state_of b).controls w (name_of (shape_of b).n c) ≡ control_bit q b m w c
  unfolding shape_of
  control_read w c r k = has_state b Control w (name_of (shape_of b).n c) ∙ low_bit 1 6 w c refl (low_room 1 (omega arith)) r k

  pub own_subject : (w s : ℕ) → w < (shape_of b).n → s < (shape_of b).n → (state_of b).owns w (Subject s) ≡ own_bit q b m w s
  own_subject w s r l = ap ((state_of b).owns w) (sym (subject_named (shape_of b).n s l)) ∙ own_read w s r (omega arith)

  pub control_subject : (w s : ℕ) → w < (shape_of b).n → s < (shape_of b).n → (state_of b).controls w (Subject s) ≡ control_bit q b m w s
  control_subject w s r l = ap ((state_of b).controls w) (sym (subject_named (shape_of b).n s l)) ∙ control_read w s r (omega arith)

  own_plain : (w c : ℕ) → w < (shape_of b).n → (shape_of b).n ≤ c → c < columns (shape_of b) → (state_of b).owns w (Plain c) ≡ own_bit q b m w c
  own_plain w c r g l = ap ((state_of b).owns w) (sym (plain_name (shape_of b).n c g)) ∙ own_read w c r l

  pub control_plain : (w c : ℕ) → w < (shape_of b).n → (shape_of b).n ≤ c → c < columns (shape_of b) → (state_of b).controls w (Plain c) ≡ control_bit q b m w c
  control_plain w c r g l = ap ((state_of b).controls w) (sym (plain_name (shape_of b).n c g)) ∙ control_read w c r l

  -- the cell is zero
  pub empty_read : (w c : ℕ) → w < (shape_of b).n → c < columns (shape_of b) → empty_cell (shape_of b) (state_of b) w (name_of (shape_of b).n c) ≡ zero_cell q b m w c
  empty_read w c r k =
      ap not
      (any_same (bits_of (shape_of b)) (λ j. has (state_of b) (right_of j) w (name_of (shape_of b).n c)) (λ j. bit j (cell_at b w c))
      (λ j l. has_state b (right_of j) w (name_of (shape_of b).n c) ∙ ap (λ (i : ℕ). bit_at b i w (name_of (shape_of b).n c)) (code_of_right_of j) ∙ bit_at_cell b w c r k j l)
      ∙ any_bit (bits_of (shape_of b)) (cell_at b w c) (cell_below b w c octets))
      ∙ not-not (eqb (cell_at b w c) 0) ∙ cell_zero b w c

  -- the name of a column exists
  pub column_read : (c : ℕ) → c < columns (shape_of b)
      → exists_name (state_of b) (name_of (shape_of b).n c) ≡ column_exists (shape_of b).n (own_bit q b m) (control_bit q b m) c
  unfolding state_of
  column_read c k = go (way (ltb c (shape_of b).n))
    where
      go : (ltb c (shape_of b).n ≡ true) ⊎ (ltb c (shape_of b).n ≡ false)
          → exists_name (state_of b) (name_of (shape_of b).n c) ≡ column_exists (shape_of b).n (own_bit q b m) (control_bit q b m) c
      go (inl q) = rw q (control_subject c c (ltb-true c _ q) (ltb-true c _ q))
      go (inr q) = rw q (any_same (shape_of b).n _ _ (λ w l. own_plain w c l (ltb-false c _ q) k))
