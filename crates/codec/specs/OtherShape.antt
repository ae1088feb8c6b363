-- A record's cells in another shape with its names. Where the state is within that shape, a cell is the same number in both, and bytes of that
-- shape that have the record's cells are those that the state is written as.
use Rattle.std.specs.Prelude.{ℕ, ◌^◌, ◌≤◌, ◌<◌, ◌≡◌, true, false, List, ◌++◌, ltb}
use Rattle.std.proofs.Math.Nat.{mod-le}
use Rattle.std.proofs.Common.{lt_of_le_of_lt, arith, sym, ◌∙◌, ap, subst, ⊎_elim, ltb-true, ltb-false}
use Rattle.matrix.specs.declared.Shape.{Shape}
use Rattle.matrix.specs.Names.{name_of}
use Rattle.matrix.specs.Rights.{code_of, right_of}
use Rattle.matrix.specs.State.{State, has}
use Rattle.matrix.specs.Bytes.{bytes_of_number, bit, from_bits}
use Rattle.matrix.specs.Shape.{shape_of, bits_of, columns}
use Rattle.matrix.specs.Reading.{cell_at, bit_at, state_of, content, cell_of, row_of, header, bytes_of}
use Rattle.matrix.specs.Shaped.{Shaped, Octets, Within}
use Rattle.laws.specs.Tests.{way, fails}
use Rattle.codec.specs.Bits.{from_bits_below, bit_from_bits, from_bits_same, from_bits_mod, from_bits_bit, same_bits, bit_beyond}
use Rattle.codec.specs.Codes.{code_of_right_of}
use Rattle.codec.specs.Blocks.{joined_same}
use Rattle.codec.specs.Cells.{cell_below}
use Rattle.codec.specs.Update.{has_state, bit_at_bounded}
use Rattle.codec.specs.RoundTrip.{cell_read, read_write}

-- a number that has no bit set from m on is one of m bits
below_bits : (m k v : ℕ) → v < 2 ^ k → ((j : ℕ) → m ≤ j → bit j v ≡ false) → v < 2 ^ m
below_bits m k v h none = subst (λ (x : ℕ). x < 2 ^ m) (sym same) (from_bits_below m (λ j. bit j v))
  where
    low : ℕ
    low = from_bits m (λ j. bit j v)

    small : low < 2 ^ k
    small = lt_of_le_of_lt (subst (λ (x : ℕ). x ≤ v) (sym (from_bits_mod m v)) (mod-le v (2 ^ m))) h

    same : v ≡ low
    same =
        same_bits k v low h small
        (λ j l. ⊎_elim (λ (t : ltb j m ≡ true). sym (bit_from_bits m (λ i. bit i v) j (ltb-true j m t)))
        (λ (t : ltb j m ≡ false). none j (ltb-false j m t) ∙ sym (bit_beyond m j low (from_bits_below m (λ i. bit i v)) (ltb-false j m t))) (way (ltb j m)))

-- a cell of a record whose state is within the shape g
module _ (b : List ℕ) (o : Octets b) (g : Shape) (i : Within g (state_of b)) (r c : ℕ) (row : r < (shape_of b).n) (column : c < columns (shape_of b)) where
  -- every bit of it is read
  read : (j : ℕ) → has (state_of b) (right_of j) r (name_of (shape_of b).n c) ≡ bit j (cell_at b r c)
  read j =
      has_state b (right_of j) r (name_of (shape_of b).n c) ∙ ap (λ (k : ℕ). bit_at b k r (name_of (shape_of b).n c)) (code_of_right_of j)
      ∙ bit_at_bounded b r c row column j (cell_below b r c o)

  -- its number has the bits of a cell of g
  pub cell_fits : cell_at b r c < 2 ^ bits_of g
  cell_fits = below_bits (bits_of g) (bits_of (shape_of b)) (cell_at b r c) (cell_below b r c o) none
    where
      none : (j : ℕ) → bits_of g ≤ j → bit j (cell_at b r c) ≡ false
      none j l =
          fails (bit j (cell_at b r c))
          (λ h. let m : code_of (right_of j) < bits_of g = i.right (right_of j) r (name_of (shape_of b).n c) (read j ∙ h) in
          let e : code_of (right_of j) ≡ j = code_of_right_of j in omega arith)

  -- and is the one that g has there
  pub cell_kept : g.n ≡ (shape_of b).n → cell_of g (state_of b) r c ≡ cell_at b r c
  cell_kept e =
      from_bits_same (bits_of g) (λ j. has (state_of b) (right_of j) r (name_of g.n c)) (λ j. bit j (cell_at b r c))
      (λ j l. ap (λ (n : ℕ). has (state_of b) (right_of j) r (name_of n c)) e ∙ read j)
      ∙ from_bits_bit (bits_of g) (cell_at b r c) cell_fits

-- states with the same cells are written as the same bytes
bytes_same : (g : Shape) (S T : State) → ((r c : ℕ) → r < g.n → c < columns g → cell_of g S r c ≡ cell_of g T r c)
    → bytes_of (content g S) ≡ bytes_of (content g T)
unfolding bytes_of
bytes_same g S T e =
    ap (λ (x : List ℕ). header g ++ x)
    (joined_same g.n (row_of g S) (row_of g T)
    (λ r h. joined_same (columns g) (λ c. bytes_of_number g.width (cell_of g S r c)) (λ c. bytes_of_number g.width (cell_of g T r c))
    (λ c l. ap (bytes_of_number g.width) (e r c h l))))

-- bytes of another shape with the same cells
pub cells_write : (b out : List ℕ) → Octets b → Shaped out → Octets out → (shape_of out).n ≡ (shape_of b).n → (shape_of out).p ≡ (shape_of b).p
    → Within (shape_of out) (state_of b) → ((r c : ℕ) → r < (shape_of out).n → c < columns (shape_of out) → cell_at out r c ≡ cell_at b r c)
    → out ≡ bytes_of (content (shape_of out) (state_of b))
cells_write b out o s q n p i same =
    sym (read_write out s q)
    ∙ bytes_same (shape_of out) (state_of out) (state_of b)
    (λ r c h l. cell_read out s q r c h l ∙ same r c h l ∙ sym (cell_kept b o (shape_of out) i r c (omega arith) (omega arith) n))
