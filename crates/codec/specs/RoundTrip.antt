-- A record of the right form is read as one state, and that state is written as the same bytes; a state within a shape's names and rights is
-- read back as it was written.
use Rattle.std.specs.Prelude.{ℕ, ◌+◌, ◌-◌, ◌*◌, ◌≤◌, ◌<◌, ◌≡◌, refl, Bool, true, ◌&&◌, ltb, drop}
use Rattle.std.proofs.Common.{arith, ◌∙◌, subst, length-drop, take-suc, take-add, take_all, ltb-true}
use Rattle.std.proofs.Math.Path.{sym, ap, ap₂}
use mathlib.Core.List.{List, [], ◌∷◌, ◌++◌, append_assoc}
use Rattle.std.proofs.Math.ListN.{length, get_or, take, take-append-drop}
use Rattle.matrix.specs.declared.Name.{Name}
use Rattle.matrix.specs.declared.Right.{Right}
use Rattle.matrix.specs.Names.{name_of, column_of, named}
use Rattle.matrix.specs.Rights.{code_of, right_of}
use Rattle.matrix.specs.State.{has}
use Rattle.matrix.specs.Bytes.{bytes_of_number, bit, joined}
use Rattle.matrix.specs.Shape.{shape_of, header_bytes, columns, cell_place, bits_of}
use Rattle.matrix.specs.Reading.{cell_at, content_of, cell_of, row_of, header, bit_at, state_of, bytes_of}
use Rattle.matrix.specs.Shaped.{Shaped, Octets, Within}
use Rattle.laws.specs.Tests.{and_left, and_right}
use Rattle.codec.specs.Bits.{from_bits_bit, from_bits_same}
use Rattle.codec.specs.Codes.{code_of_right_of}
use Rattle.codec.specs.Numbers.{bytes_number_at}
use Rattle.codec.specs.Cells.{cell_below, cell_inside}
use Rattle.codec.specs.Update.{has_state, bit_read}
use Rattle.codec.specs.Blocks.{joined_same, joined_parts}

-- only bits of the record's rows, columns and rights are read
pub within_read : (b : List ℕ) → Within (shape_of b) (state_of b)
unfolding bit_at state_of
within_read b =
    record {
      top = refl;
      row = λ y w x h. ltb-true w n (and_left (ltb w n) (named n p x) (and_left (ltb w n && named n p x) (room y) (tests y w x h)));
      column = λ y w x h. and_right (ltb w n) (named n p x) (and_left (ltb w n && named n p x) (room y) (tests y w x h));
      right = λ y w x h. ltb-true (code_of y) (bits_of (shape_of b)) (and_right (ltb w n && named n p x) (room y) (tests y w x h));
    }
  where
    n : ℕ
    n = (shape_of b).n

    p : ℕ
    p = (shape_of b).p

    room : Right → Bool
    room y = ltb (code_of y) (bits_of (shape_of b))

    tests : (y : Right) (w : ℕ) (x : Name) → has (state_of b) y w x ≡ true → (ltb w n && named n p x && room y) ≡ true
    tests y w x h = and_left (ltb w n && named n p x && room y) (bit (code_of y) (cell_at b w (column_of x))) (sym (has_state b y w x) ∙ h)

-- ---- bytes that are read, and written again
module _ (b : List ℕ) (s : Shaped b) (o : Octets b) where
  -- a cell's number is the one of its bits
  pub cell_read : (r c : ℕ) → r < (shape_of b).n → c < columns (shape_of b) → cell_of (shape_of b) (state_of b) r c ≡ cell_at b r c
  cell_read r c row column =
      from_bits_same (bits_of (shape_of b)) (λ j. has (state_of b) (right_of j) r (name_of (shape_of b).n c)) (λ j. bit j (cell_at b r c)) each
      ∙ from_bits_bit (bits_of (shape_of b)) (cell_at b r c) (cell_below b r c o)
    where
      each : (j : ℕ) → j < bits_of (shape_of b) → has (state_of b) (right_of j) r (name_of (shape_of b).n c) ≡ bit j (cell_at b r c)
      each j h =
          bit_read b r c row column (right_of j) (subst (λ (i : ℕ). i < bits_of (shape_of b)) (sym (code_of_right_of j)) h)
          ∙ ap (λ (i : ℕ). bit i (cell_at b r c)) (code_of_right_of j)

  -- a row is written as the bytes where it stands
  row_read : (r : ℕ) → r < (shape_of b).n
      → row_of (shape_of b) (state_of b) r ≡
      take (columns (shape_of b) * (shape_of b).width) (drop ((shape_of b).first + r * (columns (shape_of b) * (shape_of b).width)) b)
  row_read r row =
      joined_same k (λ c. bytes_of_number w (cell_of (shape_of b) (state_of b) r c)) (λ c. take w (drop ((shape_of b).first + r * (k * w) + c * w) b)) each
      ∙ joined_parts b ((shape_of b).first + r * (k * w)) k w
    where
      k : ℕ
      k = columns (shape_of b)

      w : ℕ
      w = (shape_of b).width

      regroup : (a v i m c : ℕ) → a + v * (i * m + c) ≡ a + i * (m * v) + c * v
      regroup a v i m c = omega arith

      each : (c : ℕ) → c < k
          → bytes_of_number w (cell_of (shape_of b) (state_of b) r c) ≡ take w (drop ((shape_of b).first + r * (k * w) + c * w) b)
      each c column =
          let stands : bytes_of_number w (cell_at b r c) ≡ take w (drop (cell_place (shape_of b) r c) b) =
          unfold cell_at in bytes_number_at b (cell_place (shape_of b) r c) w o (cell_inside b r c s row column) in
          ap (bytes_of_number w) (cell_read r c row column) ∙ stands ∙ ap (λ (a : ℕ). take w (drop a b)) (regroup (shape_of b).first w r k c)

  rows_read : joined (shape_of b).n (row_of (shape_of b) (state_of b)) ≡ drop (shape_of b).first b
  rows_read =
      joined_same n (row_of (shape_of b) (state_of b)) (λ r. take (k * w) (drop ((shape_of b).first + r * (k * w)) b)) row_read
      ∙ joined_parts b (shape_of b).first n (k * w)
      ∙ take_all (n * (k * w)) (drop (shape_of b).first b) (rw (length-drop (shape_of b).first b, s.size) (rest (shape_of b).first n k w))
    where
      n : ℕ
      n = (shape_of b).n

      k : ℕ
      k = columns (shape_of b)

      w : ℕ
      w = (shape_of b).width

      rest : (a i m v : ℕ) → a + v * (i * m) - a ≤ i * (m * v)
      rest a i m v = omega arith

  header_read : header (shape_of b) ≡ take (shape_of b).first b
  unfolding shape_of
  header_read =
      ap (λ (v : ℕ). get_or b 0 0 ∷ bytes_of_number 4 v ++ (get_or b 5 0 ∷ get_or b 6 0 ∷ [])) (sym s.count)
      ∙ ap (λ (x : List ℕ). get_or b 0 0 ∷ x ++ (get_or b 5 0 ∷ get_or b 6 0 ∷ [])) (bytes_number_at b 1 4 o (long 5 (omega arith)))
      ∙ sym parts
    where
      -- the header's bytes are there
      long : (i : ℕ) → i ≤ header_bytes → i ≤ length b
      long i h = rw s.size (omega arith)

      parts : take header_bytes b ≡ get_or b 0 0 ∷ take 4 (drop 1 b) ++ (get_or b 5 0 ∷ get_or b 6 0 ∷ [])
      parts =
          take-suc b 6 0 (long 7 (omega arith)) ∙ ap (λ (x : List ℕ). x ++ (get_or b 6 0 ∷ [])) (take-suc b 5 0 (long 6 (omega arith)))
          ∙ append_assoc (take 5 b) (get_or b 5 0 ∷ []) (get_or b 6 0 ∷ [])
          ∙ ap (λ (x : List ℕ). x ++ (get_or b 5 0 ∷ get_or b 6 0 ∷ []))
          (take-add 1 4 b ∙ ap (λ (x : List ℕ). x ++ take 4 (drop 1 b)) (take-suc b 0 0 (long 1 (omega arith))))

  pub read_write : bytes_of (content_of b) ≡ b
  unfolding bytes_of
  read_write = ap₂ {C = List ℕ} (λ x y. x ++ y) header_read rows_read ∙ take-append-drop (shape_of b).first b
