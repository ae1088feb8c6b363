-- What the passes over rows of lanes find of each lane.
use Rattle.std.specs.Prelude.{ℕ, zero, suc, ◌+◌, ◌-◌, ◌*◌, ◌%◌, ◌≤◌, ◌<◌, ◌≡◌, Bool, cond, List, eqb, length, get_or}
use Rattle.std.specs.Int.Bits.{bit_or, bit_xor}
use Rattle.matrix.specs.Bounded.{count}
use Rattle.matrix.specs.Bytes.{bit}
use Rattle.lanes.specs.declared.Matrix.{Matrix}
use Rattle.lanes.specs.Lists.{Holds}

-- the bits that are set in one of the first r numbers
unfoldable pub merged : ℕ → (ℕ → ℕ) → ℕ
merged zero f = 0
merged (suc r) f = bit_or (merged r f) (f r)

-- the two low bits of the first r numbers, as numbers, added up
unfoldable pub lows : ℕ → (ℕ → ℕ) → ℕ
lows zero f = 0
lows (suc r) f = lows r f + f r % 4

-- the bits that are set in an odd number of the first r numbers
unfoldable pub paired : ℕ → (ℕ → ℕ) → ℕ
paired zero f = 0
paired (suc r) f = bit_xor (paired r f) (f r)

-- how many of the numbers below r have an odd number that pass among those up to them: where just one passes, those from it on
unfoldable pub since : ℕ → (ℕ → Bool) → ℕ
since zero f = 0
since (suc r) f = since r f + count (suc r) f % 2

-- the one that passes of the numbers below n, where just one does; 0 where none does
abbrev pub place_of : ℕ → ℕ → ℕ
place_of n a = cond (eqb a 0) 0 (n - a)

abbrev pub mark_of : ℕ → (ℕ → Bool) → ℕ
mark_of n f = place_of n (since n f)

-- 1 where a test fails, else 0
abbrev pub fault_of : Bool → ℕ
fault_of t = cond t 0 1

-- the bytes of a row, two for each lane, and the first byte of row r
abbrev pub row_bytes : Matrix → ℕ
row_bytes m = 2 * m.lanes

abbrev pub row_place : Matrix → ℕ → ℕ
row_place m r = m.first + r * row_bytes m

-- byte j of row r
abbrev pub byte_at : List ℕ → Matrix → ℕ → ℕ → ℕ
byte_at b m r j = get_or b (row_place m r + j) 0

-- the lane from byte `at` on, as the code reads it: the first byte is the lower one
abbrev pub lane_in : List ℕ → ℕ → ℕ
lane_in b at = get_or b at 0 + get_or b (at + 1) 0 * 256

-- lane j of row r, its upper byte, and a bit of that
abbrev pub lane_at : List ℕ → Matrix → ℕ → ℕ → ℕ
lane_at b m r j = lane_in b (row_place m r + 2 * j)

abbrev pub upper_at : List ℕ → Matrix → ℕ → ℕ → ℕ
upper_at b m r j = byte_at b m r (2 * j + 1)

abbrev pub bit_in : List ℕ → Matrix → ℕ → ℕ → ℕ → Bool
bit_in b m i j r = bit i (upper_at b m r j)

-- bytes that hold a row or more
pub record Laid (b : List ℕ) (m : Matrix) : Type 0 where
  pub some : 1 ≤ m.rows
  pub holds : row_place m m.rows ≤ length b

-- the bits that are seen in lane j, over all rows
abbrev pub seen_at : List ℕ → Matrix → ℕ → ℕ
seen_at b m j = merged m.rows (λ v. lane_at b m v j)

-- a list of `room` places of which the first k have what is seen in k lanes from lane c on
pub record Seen (b : List ℕ) (m : Matrix) (c k room : ℕ) (seen : List ℕ) : Type 0 where
  pub size : length seen ≡ room
  pub value : (j : ℕ) → j < k → get_or seen j 0 ≡ seen_at b m (c + j)

-- Of each lane below `upto`, in lists of `room` places: the low two bits of its upper byte added up, which is how many rows have the lower one
-- and twice how many have the other; which of these two bits an odd number of rows have; and the row that has the lowest bit, where just one has
-- it, or 0 where none has.
pub record Counted (room : ℕ) (b : List ℕ) (m : Matrix) (upto : ℕ) (tally odd marks : List ℕ) : Type 0 where
  pub sums : Holds room upto (λ j. lows m.rows (λ v. upper_at b m v j)) tally
  pub parity : Holds room upto (λ j. paired m.rows (λ v. upper_at b m v j) % 4) odd
  pub owner : Holds room upto (λ j. mark_of m.rows (bit_in b m 0 j)) marks
