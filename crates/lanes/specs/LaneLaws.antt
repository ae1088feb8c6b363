-- Laws of what is kept for each lane: one row more, what a merged number tells, and where rows and lanes lie.
use Rattle.std.specs.Prelude.{ℕ, zero, suc, ◌+◌, ◌*◌, ◌/◌, ◌%◌, ◌^◌, ◌≤◌, ◌<◌, ◌≡◌, refl, Bool, cond, List, eqb, length, get_or}
use Rattle.std.proofs.Common.{div-one, zero-mul, add-mul, one-mul, mul-le-mul_right, add-one, arith, sym, ◌∙◌, ap, ⊎_elim, pow-add}
use Rattle.std.proofs.Math.Nat.{zero-div, div-div-eq-div-mul}
use Rattle.std.specs.Int.Bits.{bit_or, bit_xor, xor_add_and}
use Rattle.std.proofs.lemmas.Nat.{xor_shr}
use Rattle.laws.specs.Tests.{way}
use Rattle.matrix.specs.Bounded.{count}
use Rattle.matrix.specs.Bytes.{bit}
use Rattle.matrix.specs.Shaped.{Octets}
use Rattle.laws.specs.BitOps.{bit_count}
use Rattle.lanes.specs.declared.Matrix.{Matrix}
use Rattle.lanes.specs.Lanes.{merged, lows, paired, since, row_bytes, row_place, lane_at, upper_at, bit_in, Laid}

-- one row more
pub merged_step : (r : ℕ) (f : ℕ → ℕ) → bit_or (merged r f) (f r) ≡ merged (r + 1) f
unfolding merged
merged_step r f = rw add-one refl

pub lows_step : (r : ℕ) (f : ℕ → ℕ) → lows r f + f r % 4 ≡ lows (r + 1) f
unfolding lows
lows_step r f = rw add-one refl

pub paired_step : (r : ℕ) (f : ℕ → ℕ) → bit_xor (paired r f) (f r) ≡ paired (r + 1) f
unfolding paired
paired_step r f = rw add-one refl

pub count_le : (n : ℕ) (f : ℕ → Bool) → count n f ≤ n
unfolding count
count_le zero f = omega arith
count_le (suc n) f = let h : count n f ≤ n = count_le n f in ⊎_elim (λ e. rw e (omega arith)) (λ e. rw e (omega arith)) (way (f n))

pub lows_le : (n : ℕ) (f : ℕ → ℕ) → lows n f ≤ 3 * n
unfolding lows
lows_le zero f = omega arith
lows_le (suc n) f = let h : lows n f ≤ 3 * n = lows_le n f in omega arith

-- the low bits added up: how many numbers have bit 0, and twice how many have bit 1
pub lows_counts : (n : ℕ) (f : ℕ → ℕ) → lows n f ≡ count n (λ i. bit 0 (f i)) + 2 * count n (λ i. bit 1 (f i))
unfolding lows count
lows_counts zero f = omega arith
lows_counts (suc n) f =
    let h : lows n f ≡ count n (λ i. bit 0 (f i)) + 2 * count n (λ i. bit 1 (f i)) = lows_counts n f in
    let p : f n / 1 % 2 ≡ cond (bit 0 (f n)) 1 0 = bit_count 0 (f n) in
    let q : f n / 2 % 2 ≡ cond (bit 1 (f n)) 1 0 = bit_count 1 (f n) in
    omega arith

-- the two low bits of a number are bits 0 and 1
pub low_bits : (x : ℕ) → (bit 0 (x % 4) ≡ bit 0 x) × (bit 1 (x % 4) ≡ bit 1 x)
unfolding bit
low_bits x =
    let e : x % 4 / 1 % 2 ≡ x / 1 % 2 = omega arith in
    let f : x % 4 / 2 % 2 ≡ x / 2 % 2 = omega arith in
    (ap (λ (y : ℕ). eqb y 1) e, ap (λ (y : ℕ). eqb y 1) f)

-- whether an odd number of them have a bit, as a number and as a test
paired_digit : (k n : ℕ) (f : ℕ → ℕ) → paired n f / 2 ^ k % 2 ≡ count n (λ i. bit k (f i)) % 2
unfolding paired count
paired_digit k zero f = ap (λ (x : ℕ). x % 2) (zero-div (2 ^ k))
paired_digit k (suc n) f =
    let h : paired n f / 2 ^ k % 2 ≡ count n (λ i. bit k (f i)) % 2 = paired_digit k n f in
    let q : f n / 2 ^ k % 2 ≡ cond (bit k (f n)) 1 0 = bit_count k (f n) in
    ap (λ (x : ℕ). x % 2) (xor_shr (paired n f) (f n) k) ∙ odd (paired n f / 2 ^ k) (f n / 2 ^ k) ∙ omega arith
  where
    odd : (a b : ℕ) → bit_xor a b % 2 ≡ (a + b) % 2
    odd a b = omega (arith, xor_add_and a b)

pub paired_bit : (k n : ℕ) (f : ℕ → ℕ) → bit k (paired n f) ≡ eqb (count n (λ i. bit k (f i)) % 2) 1
unfolding bit
paired_bit k n f = ap (λ (x : ℕ). eqb x 1) (paired_digit k n f)

pub paired_odd : (n : ℕ) (f : ℕ → ℕ) → paired n f % 2 ≡ count n (λ i. bit 0 (f i)) % 2
paired_odd n f = ap (λ (x : ℕ). x % 2) (sym (div-one (paired n f))) ∙ paired_digit 0 n f

-- one row more of those from the one that passes on
pub since_step : (r : ℕ) (f : ℕ → ℕ) → since r (λ v. bit 0 (f v)) + paired (r + 1) f % 2 ≡ since (r + 1) (λ v. bit 0 (f v))
unfolding since
since_step r f = rw add-one (ap (λ (x : ℕ). since r (λ v. bit 0 (f v)) + x) (paired_odd (suc r) f))

pub since_le : (n : ℕ) (f : ℕ → Bool) → since n f ≤ n
unfolding since
since_le zero f = omega arith
since_le (suc n) f = let h : since n f ≤ n = since_le n f in omega arith

-- a lane's upper byte is its second one
pub upper_byte : (b : List ℕ) (m : Matrix) (r j : ℕ) → get_or b (row_place m r + 2 * j + 1) 0 ≡ upper_at b m r j
upper_byte b m r j = ap (λ (i : ℕ). get_or b i 0) (omega arith)

-- the place of the next row, and that a row lies in the bytes
pub next_place : (m : Matrix) (r at : ℕ) → at ≡ row_place m r → at + row_bytes m ≡ row_place m (r + 1)
next_place m r at e =
    let q : (r + 1) * row_bytes m ≡ r * row_bytes m + 1 * row_bytes m = add-mul r 1 (row_bytes m) in
    let u : 1 * row_bytes m ≡ row_bytes m = one-mul (row_bytes m) in
    omega arith

pub row_room : (b : List ℕ) (m : Matrix) (r : ℕ) → Laid b m → r < m.rows → row_place m r + row_bytes m ≤ length b
row_room b m r h l =
    let p : row_place m r + row_bytes m ≡ row_place m (r + 1) = next_place m r (row_place m r) refl in
    let q : (r + 1) * row_bytes m ≤ m.rows * row_bytes m = mul-le-mul_right (row_bytes m) (omega arith) in
    omega (arith, h.holds)

-- the first row
pub first_place : (m : Matrix) → m.first ≡ row_place m 0
first_place m = omega (arith, zero-mul (row_bytes m))

pub first_room : (b : List ℕ) (m : Matrix) → Laid b m → m.first + row_bytes m ≤ length b
first_room b m h = omega (arith, row_room b m 0 h h.some, zero-mul (row_bytes m))

-- bit i of the upper byte, in the lane as the code reads it
pub lane_bit : (b : List ℕ) → Octets b → (m : Matrix) (i r j : ℕ) → bit (8 + i) (lane_at b m r j) ≡ bit_in b m i j r
unfolding bit
lane_bit b octets m i r j =
    let h : get_or b (row_place m r + 2 * j) 0 < 256 = octets.octet (row_place m r + 2 * j) in
    let e : get_or b (row_place m r + 2 * j + 1) 0 ≡ upper_at b m r j = upper_byte b m r j in
    let q : lane_at b m r j / 256 ≡ upper_at b m r j = omega arith in
    ap (λ (x : ℕ). eqb (lane_at b m r j / x % 2) 1) (pow-add 2 8 i) ∙ ap (λ (x : ℕ). eqb (x % 2) 1) (sym (div-div-eq-div-mul (lane_at b m r j) 256 (2 ^ i)))
    ∙ ap (λ (x : ℕ). eqb (x / 2 ^ i % 2) 1) q
