-- What is counted of one lane, of several at once and of all, and the laws of the loops that count.
use Rattle.std.specs.Prelude.{ℕ, ◌+◌, ◌*◌, ◌%◌, ◌≤◌, ◌<◌, ◌≡◌, refl, List, length, set}
use Rattle.std.proofs.Common.{arith, sym, ◌∙◌, ap, subst}
use Rattle.std.specs.Int.Bits.{bit_xor}
use Rattle.matrix.specs.Bytes.{bit}
use Rattle.lanes.specs.Lists.{Holds, Filled, filled_none, filled_step, filled_both, Part, Reached, reached_none, reached_part}
use Rattle.lanes.specs.declared.Matrix.{Matrix}
use Rattle.lanes.specs.Lanes.{lows, paired, since, place_of, mark_of, upper_at, bit_in, Counted}
use Rattle.lanes.specs.LaneLaws.{lows_step, lows_le, paired_step, since_step, since_le}

-- the numbers that count at once
abbrev pub at_once : ℕ
at_once = 8

-- three lists of one length
pub record Sized (room : ℕ) (tally odd marks : List ℕ) : Type 0 where
  pub sums : length tally ≡ room
  pub parity : length odd ≡ room
  pub owner : length marks ≡ room

-- what is counted of a lane whose upper bytes are f, after r rows
pub record Column (f : ℕ → ℕ) (r low odd count : ℕ) : Type 0 where
  pub sum : low ≡ lows r f
  pub parity : odd ≡ paired r f
  pub owned : count ≡ since r (λ v. bit 0 (f v))

-- no row yet, and one row more, whose upper byte is v
pub column_none : (f : ℕ → ℕ) → Column f 0 0 0 0
unfolding lows paired since
column_none f = record { sum = refl; parity = refl; owned = refl }

pub column_next : (f : ℕ → ℕ) (r low odd count v : ℕ) → Column f r low odd count → v ≡ f r
    → Column f (r + 1) (low + v % 4) (bit_xor odd v) (count + bit_xor odd v % 2)
column_next f r low odd count v k e =
    record {
      sum = ap (λ (x : ℕ). x + v % 4) k.sum ∙ ap (λ (x : ℕ). lows r f + x % 4) e ∙ lows_step r f;
      parity = even;
      owned = ap (λ (x : ℕ). x + bit_xor odd v % 2) k.owned ∙ ap (λ (x : ℕ). since r (λ w. bit 0 (f w)) + x % 2) even ∙ since_step r f;
    }
  where
    even : bit_xor odd v ≡ paired (r + 1) f
    even = ap (λ (x : ℕ). bit_xor x v) k.parity ∙ ap (λ (x : ℕ). bit_xor (paired r f) x) e ∙ paired_step r f

-- the numbers stay small
pub column_low : (f : ℕ → ℕ) (r low odd count : ℕ) → Column f r low odd count → low ≤ 3 * r
column_low f r low odd count k = let e : low ≡ lows r f = k.sum in omega (arith, lows_le r f)

pub column_count : (f : ℕ → ℕ) (r low odd count : ℕ) → Column f r low odd count → count ≤ r
column_count f r low odd count k = let e : count ≡ since r (λ v. bit 0 (f v)) = k.owned in omega (arith, since_le r (λ v. bit 0 (f v)))

-- w lanes from lane c on are counted into the three lists
pub record Filling (b : List ℕ) (m : Matrix) (c w : ℕ) (tally odd marks tally' odd' marks' : List ℕ) : Type 0 where
  pub sums : Filled c w (λ j. lows m.rows (λ v. upper_at b m v j)) tally tally'
  pub parity : Filled c w (λ j. paired m.rows (λ v. upper_at b m v j) % 4) odd odd'
  pub owner : Filled c w (λ j. mark_of m.rows (bit_in b m 0 j)) marks marks'

-- a single lane is counted into them
pub filling_one : (b : List ℕ) (m : Matrix) (c : ℕ) (tally odd marks : List ℕ) (room x y z p : ℕ) → Sized room tally odd marks → c < room
    → Column (λ v. upper_at b m v c) m.rows x y z → p ≡ place_of m.rows z → Filling b m c 1 tally odd marks (set tally c x) (set odd c (y % 4)) (set marks c p)
filling_one b m c tally odd marks room x y z p a h k e =
    let q : c + 0 ≡ c = omega arith in
    let t : Filling b m c 1 tally odd marks (set tally (c + 0) x) (set odd (c + 0) (y % 4)) (set marks (c + 0) p) = record {
      sums = filled_step c 0 _ tally tally x (filled_none c _ tally) (omega (arith, a.sums)) (rw q k.sum);
      parity = filled_step c 0 _ odd odd (y % 4) (filled_none c _ odd) (omega (arith, a.parity)) (rw q (ap (λ (i : ℕ). i % 4) k.parity));
      owner = filled_step c 0 _ marks marks p (filled_none c _ marks) (omega (arith, a.owner)) (rw q (e ∙ ap (λ (i : ℕ). place_of m.rows i) k.owned));
    } in
    rw q at t

-- some lanes are counted into them, and then those after them
pub filling_both : (b : List ℕ) (m : Matrix) (c w u : ℕ) (tally odd marks tally' odd' marks' tally'' odd'' marks'' : List ℕ) → Filling b m c w tally odd marks tally' odd' marks'
    → Filling b m (c + w) u tally' odd' marks' tally'' odd'' marks'' → Filling b m c (w + u) tally odd marks tally'' odd'' marks''
filling_both b m c w u tally odd marks tally' odd' marks' tally'' odd'' marks'' s t =
    record {
      sums = filled_both c w u _ tally tally' tally'' s.sums t.sums;
      parity = filled_both c w u _ odd odd' odd'' s.parity t.parity;
      owner = filled_both c w u _ marks marks' marks'' s.owner t.owner;
    }

-- what is counted of the lanes below c, in lists of `room` places
pub record Below (room : ℕ) (b : List ℕ) (m : Matrix) (c : ℕ) (tally odd marks : List ℕ) : Type 0 where
  pub sums : Reached room 0 c m.lanes (λ j. lows m.rows (λ v. upper_at b m v j)) tally
  pub parity : Reached room 0 c m.lanes (λ j. paired m.rows (λ v. upper_at b m v j) % 4) odd
  pub owner : Reached room 0 c m.lanes (λ j. mark_of m.rows (bit_in b m 0 j)) marks

module _ (room : ℕ) (b : List ℕ) (m : Matrix) (tally odd marks : List ℕ) where
  -- none yet, the lists' length, one part more, and all
  pub below_none : Sized room tally odd marks → Below room b m 0 tally odd marks
  below_none a =
      record {
        sums = reached_none room 0 m.lanes _ tally a.sums;
        parity = reached_none room 0 m.lanes _ odd a.parity;
        owner = reached_none room 0 m.lanes _ marks a.owner;
      }

  pub below_sized : (size c : ℕ) → size ≡ room → Below room b m c tally odd marks → Sized size tally odd marks
  below_sized size c e s = record { sums = s.sums.size ∙ sym e; parity = s.parity.size ∙ sym e; owner = s.owner.size ∙ sym e }

  pub below_part : (c start w : ℕ) (tally' odd' marks' : List ℕ) → Below room b m c tally odd marks → Part w m.lanes c start
      → Filling b m start w tally odd marks tally' odd' marks' → Below room b m (c + w) tally' odd' marks'
  below_part c start w tally' odd' marks' h p s =
      record {
        sums = reached_part room 0 c m.lanes start w _ tally tally' h.sums p s.sums;
        parity = reached_part room 0 c m.lanes start w _ odd odd' h.parity p s.parity;
        owner = reached_part room 0 c m.lanes start w _ marks marks' h.owner p s.owner;
      }

  pub below_done : (upto c : ℕ) → upto ≤ c → upto ≤ m.lanes → Below room b m c tally odd marks → Counted room b m upto tally odd marks
  below_done upto c h u r = record { sums = held _ tally r.sums; parity = held _ odd r.parity; owner = held _ marks r.owner }
    where
      held : (g : ℕ → ℕ) (l : List ℕ) → Reached room 0 c m.lanes g l → Holds room upto g l
      held g l s = record { size = s.size; value = λ x p. s.value x (omega arith) (omega arith) (omega arith) }
