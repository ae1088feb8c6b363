-- Lanes counted in numbers of 16 bits, each in a half of a number as in a number of its own, and the laws of the loops that do so.
use Rattle.std.specs.Prelude.{ℕ, zero, suc, ◌+◌, ◌-◌, ◌*◌, ◌/◌, ◌%◌, ◌≤◌, ◌<◌, ◌≡◌, refl, Bool, true, false, cond, List, length, get_or, replicate}
use Rattle.std.proofs.Common.{le_refl, arith, sym, ◌∙◌, ap, subst}
use Rattle.std.specs.Int.Bits.{bit_xor}
use Rattle.std.proofs.lemmas.Nat.{xor_shr, xor_mod}
use Rattle.std.proofs.lemmas.List.{get_or-replicate}
use Rattle.matrix.specs.Bytes.{bit}
use Rattle.matrix.specs.Shaped.{Octets}
use Rattle.lanes.specs.Lists.{Stored, Filled, filled_from}
use Rattle.lanes.specs.declared.Matrix.{Matrix}
use Rattle.lanes.specs.Lanes.{lows, paired, since, place_of, row_place, byte_at, lane_in, upper_at}
use Rattle.lanes.specs.LaneLaws.{low_bits}
use Rattle.tallies.specs.declared.Counts.{Counts}
use Rattle.tallies.specs.Blocks.{at_once, Sized, Column, column_none, column_next, column_low, column_count, Filling}

-- the lanes that the numbers count at once: one each, or two
abbrev pub lanes_at : Bool → ℕ
lanes_at both = cond both (2 * at_once) at_once

-- how many bytes after the first of them the last of a number's lanes begins
abbrev pub last_at : Bool → ℕ
last_at both = cond both (2 * at_once) 0

-- the two halves of a number of 16 bits: its lower byte, and what stands above that
pub data Half : Type 0 where
  lower : Half
  upper : Half

unfoldable pub half : Half → ℕ → ℕ
half lower x = x % 256
half upper x = x / 256

-- what counts 1 in a half
unfoldable pub unit_of : Half → ℕ
unit_of lower = 1
unit_of upper = 256

-- What a number counts: in its two halves the lower and the upper byte of the lane from byte `at` on, each modulo 256, or, where it counts both, the two
-- low bits of the upper bytes of that lane and of the lane so many lanes after it.
abbrev pub number_in : Bool → List ℕ → ℕ → ℕ
number_in both b at =
    cond both (get_or b (at + 1) 0 % 4 + get_or b (at + 2 * at_once + 1) 0 % 4 * 256) (get_or b at 0 % 256 + get_or b (at + 1) 0 % 256 * 256)

-- of bytes it is the lane as it is
pub number_lane : (b : List ℕ) → Octets b → (at : ℕ) → number_in false b at ≡ lane_in b at
number_lane b o at = omega (arith, o.octet at, o.octet (at + 1))

-- the numbers of a row whose lanes begin at byte `at`
abbrev pub numbers_from : Bool → List ℕ → ℕ → ℕ → ℕ
numbers_from both b at j = number_in both b (at + 2 * j)

-- the two low bits of each half, and the lowest one
abbrev pub lows_both : ℕ → ℕ
lows_both x = x % 4 + x / 256 % 4 * 256

abbrev pub own_both : ℕ → ℕ
own_both x = x % 2 + x / 256 % 2 * 256

-- What row v has for a half of number j: a byte of a lane, or the two low bits of a lane's upper byte. The lanes begin with lane c.
unfoldable pub row_half : Bool → List ℕ → Matrix → ℕ → Half → ℕ → ℕ → ℕ
row_half true b m c lower j v = upper_at b m v (c + j) % 4
row_half true b m c upper j v = upper_at b m v (c + at_once + j) % 4
row_half false b m c lower j v = byte_at b m v (2 * (c + j))
row_half false b m c upper j v = upper_at b m v (c + j)

-- What the half takes of that: a byte of a lane modulo 256, as the list may hold any numbers, and the two low bits whole. Of bytes that is all of it.
unfoldable pub added : Bool → List ℕ → Matrix → ℕ → Half → ℕ → ℕ → ℕ
added true b m c h j v = row_half true b m c h j v
added false b m c h j v = row_half false b m c h j v % 256

-- a half of number j, as the code takes it
abbrev pub taken : List ℕ → ℕ → ℕ → ℕ
taken counts unit j = get_or counts j 0 / unit % 256

-- the numbers below place m have joined a row of numbers x
pub record Joined (x : ℕ → ℕ) (m : ℕ) (s s' : Counts) : Type 0 where
  pub sums : Stored m (λ j. get_or s.low j 0 + lows_both (x j)) s.low s'.low
  pub parity : Stored m (λ j. bit_xor (get_or s.odd j 0) (x j)) s.odd s'.odd
  pub owned : Stored m (λ j. get_or s.since j 0 + own_both (bit_xor (get_or s.odd j 0) (x j))) s.since s'.since

-- of the parities below place m the two low bits alone are left, and all else is as it was
pub record LowAlone (m : ℕ) (s s' : Counts) : Type 0 where
  pub sums : s'.low ≡ s.low
  pub parity : Stored m (λ j. lows_both (get_or s.odd j 0)) s.odd s'.odd
  pub owned : s'.since ≡ s.since

-- each half of the numbers has room for what a row adds
pub record Room (s : Counts) : Type 0 where
  pub low_room : (h : Half) (j : ℕ) → j < at_once → half h (get_or s.low j 0) + 3 < 256
  pub since_room : (h : Half) (j : ℕ) → j < at_once → half h (get_or s.since j 0) + 1 < 256

-- a row adds to each half of a sum at most 3
pub number_few : (both : Bool) (b : List ℕ) (at : ℕ) → lows_both (number_in both b at) ≤ 771
number_few both b at = omega arith

-- and a number that has not joined yet has room for that
pub low_fits : (s : Counts) (x : ℕ → ℕ) (m : ℕ) (s' : Counts) → Room s → m < at_once → Joined x m s s' → get_or s'.low m 0 + 771 < 65536
unfolding half
low_fits s x m s' room l k = omega (arith, k.sums.above m (le_refl m), room.low_room lower m l, room.low_room upper m l)

pub since_fits : (s : Counts) (x : ℕ → ℕ) (m : ℕ) (s' : Counts) → Room s → m < at_once → Joined x m s s' → get_or s'.since m 0 + 257 < 65536
unfolding half
since_fits s x m s' room l k = omega (arith, k.owned.above m (le_refl m), room.since_room lower m l, room.since_room upper m l)

-- what is counted in the halves of the numbers after r rows, where row v adds f h j v to half h of number j
pub record Halves (f : Half → ℕ → ℕ → ℕ) (r : ℕ) (s : Counts) : Type 0 where
  pub column : (h : Half) (j : ℕ) → j < at_once → Column (f h j) r (half h (get_or s.low j 0)) (half h (get_or s.odd j 0)) (half h (get_or s.since j 0))

-- one half of each number is put into the three lists, from place c on, with the row that has the lower bit for the last of its counts
pub record Put (s : Counts) (rows c unit : ℕ) (tally odd marks tally' odd' marks' : List ℕ) : Type 0 where
  pub sums : Filled c at_once (λ x. taken s.low unit (x - c)) tally tally'
  pub parity : Filled c at_once (λ x. taken s.odd unit (x - c)) odd odd'
  pub owner : Filled c at_once (λ x. place_of rows (taken s.since unit (x - c))) marks marks'

-- both halves of 0 are 0
half_zero : (h : Half) → half h 0 ≡ 0
unfolding half
half_zero lower = refl
half_zero upper = refl

-- Sums and exclusive or act on each half, where the lower halves leave no carry; the low bits of each half; and a half as the code takes it.
half_add : (h : Half) (x y : ℕ) → half lower x + half lower y < 256 → half h (x + y) ≡ half h x + half h y
unfolding half
half_add lower x y l = omega arith
half_add upper x y l = omega arith

half_xor : (h : Half) (x y : ℕ) → half h (bit_xor x y) ≡ bit_xor (half h x) (half h y)
unfolding half
half_xor lower x y = xor_mod x y 8
half_xor upper x y = xor_shr x y 8

half_own : (h : Half) (x : ℕ) → half h (own_both x) ≡ half h x % 2
unfolding half
half_own lower x = omega arith
half_own upper x = omega arith

half_low : (h : Half) (x : ℕ) → half h (lows_both x) ≡ half h x % 4
unfolding half
half_low lower x = omega arith
half_low upper x = omega arith

half_taken : (h : Half) (x : ℕ) → half h x < 256 → x / unit_of h % 256 ≡ half h x
unfolding half unit_of
half_taken lower x l = omega arith
half_taken upper x l = omega arith

-- what is counted of the two low bits of numbers is what is counted of the numbers, but for the parity of the other bits
lows_low : (r : ℕ) (f : ℕ → ℕ) → lows r (λ v. f v % 4) ≡ lows r f
unfolding lows
lows_low zero f = refl
lows_low (suc r) f = let h : lows r (λ v. f v % 4) ≡ lows r f = lows_low r f in omega arith

paired_low : (r : ℕ) (f : ℕ → ℕ) → paired r (λ v. f v % 4) ≡ paired r f % 4
unfolding paired
paired_low zero f = refl
paired_low (suc r) f = ap (λ (x : ℕ). bit_xor x (f r % 4)) (paired_low r f) ∙ sym (xor_mod (paired r f) (f r) 2)

since_low : (r : ℕ) (f : ℕ → ℕ) → since r (λ v. bit 0 (f v % 4)) ≡ since r (λ v. bit 0 (f v))
since_low r f = λ i. since r (λ v. (low_bits (f v)).0 i)

-- in any list, a half of a row's number is what the half takes of the row
pub number_half : (both : Bool) (h : Half) (b : List ℕ) (m : Matrix) (c r at j : ℕ) → at ≡ row_place m r + 2 * c
    → half h (numbers_from both b at j) ≡ added both b m c h j r
unfolding half added row_half
number_half true lower b m c r at j e = let q : get_or b (at + 2 * j + 1) 0 ≡ upper_at b m r (c + j) = ap (λ (i : ℕ). get_or b i 0) (omega arith) in omega arith
number_half true upper b m c r at j e =
    let q : get_or b (at + 2 * j + 2 * at_once + 1) 0 ≡ upper_at b m r (c + at_once + j) = ap (λ (i : ℕ). get_or b i 0) (omega arith) in omega arith
number_half false lower b m c r at j e = let q : get_or b (at + 2 * j) 0 ≡ byte_at b m r (2 * (c + j)) = ap (λ (i : ℕ). get_or b i 0) (omega arith) in omega arith
number_half false upper b m c r at j e = let q : get_or b (at + 2 * j + 1) 0 ≡ upper_at b m r (c + j) = ap (λ (i : ℕ). get_or b i 0) (omega arith) in omega arith

-- of bytes the half takes all that the row has for it, so that a half of the row's number is just that
pub added_whole : (both : Bool) (h : Half) (b : List ℕ) → Octets b → (m : Matrix) (c j v : ℕ) → added both b m c h j v ≡ row_half both b m c h j v
unfolding added row_half
added_whole true h b o m c j v = refl
added_whole false lower b o m c j v = omega (arith, o.octet (row_place m v + 2 * (c + j)))
added_whole false upper b o m c j v = omega (arith, o.octet (row_place m v + (2 * (c + j) + 1)))

pub number_whole : (both : Bool) (h : Half) (b : List ℕ) → Octets b → (m : Matrix) (c r at j : ℕ) → at ≡ row_place m r + 2 * c
    → half h (numbers_from both b at j) ≡ row_half both b m c h j r
number_whole both h b o m c r at j e = number_half both h b m c r at j e ∙ added_whole both h b o m c j r

-- no row yet
pub halves_none : (f : Half → ℕ → ℕ → ℕ) → Halves f 0 (record { low = replicate at_once 0; odd = replicate at_once 0; since = replicate at_once 0 })
halves_none f =
    record {
      column = λ h j l. let z : ◌≡◌ {A = ℕ} (get_or (replicate at_once 0) j 0) 0 = get_or-replicate at_once j 0 0 (omega arith) in rw (z, half_zero h) (column_none (f h j));
    }

-- the numbers have room for one row more
pub halves_room : (f : Half → ℕ → ℕ → ℕ) (r n : ℕ) (s : Counts) → Halves f r s → 3 * n < 256 → r < n → Room s
halves_room f r n s k few l =
    record {
      low_room = λ h j g. omega (arith, column_low _ _ _ _ _ (k.column h j g));
      since_room = λ h j g. omega (arith, column_count _ _ _ _ _ (k.column h j g));
    }

-- one row more has joined, where f says what each half of the row's numbers is
pub halves_joined : (f : Half → ℕ → ℕ → ℕ) (x : ℕ → ℕ) (r : ℕ) (s s' : Counts) → ((h : Half) (j : ℕ) → half h (x j) ≡ f h j r) → Halves f r s → Room s → Joined x at_once s s'
    → Halves f (r + 1) s'
halves_joined f x r s s' has k room joined = record { column = one }
  where
    even : (h : Half) (j : ℕ) → half h (bit_xor (get_or s.odd j 0) (x j)) ≡ bit_xor (half h (get_or s.odd j 0)) (half h (x j))
    even h j = half_xor h (get_or s.odd j 0) (x j)

    one : (h : Half) (j : ℕ) → j < at_once → Column (f h j) (r + 1) (half h (get_or s'.low j 0)) (half h (get_or s'.odd j 0)) (half h (get_or s'.since j 0))
    one h j l =
        let y = bit_xor (get_or s.odd j 0) (x j) in
        let next = column_next _ r _ _ _ (half h (x j)) (k.column h j l) (has h j) in
        record {
          sum =
              ap (λ (i : ℕ). half h i) (joined.sums.below j l)
              ∙ half_add h (get_or s.low j 0) (lows_both (x j)) (omega (arith, room.low_room lower j l, half_low lower (x j)))
              ∙ ap (λ (i : ℕ). half h (get_or s.low j 0) + i) (half_low h (x j)) ∙ next.sum;
          parity = ap (λ (i : ℕ). half h i) (joined.parity.below j l) ∙ even h j ∙ next.parity;
          owned =
              ap (λ (i : ℕ). half h i) (joined.owned.below j l) ∙ half_add h (get_or s.since j 0) (own_both y) (omega (arith, room.since_room lower j l, half_own lower y))
              ∙ ap (λ (i : ℕ). half h (get_or s.since j 0) + i) (half_own h y ∙ ap (λ (i : ℕ). i % 2) (even h j)) ∙ next.owned;
        }

-- so in any list, by what a half takes of a row
pub halves_next : (both : Bool) (b : List ℕ) (m : Matrix) (c r at : ℕ) (s s' : Counts) → at ≡ row_place m r + 2 * c → Halves (added both b m c) r s → Room s
    → Joined (numbers_from both b at) at_once s s' → Halves (added both b m c) (r + 1) s'
halves_next both b m c r at s s' place = halves_joined (added both b m c) (numbers_from both b at) r s s' (λ h j. number_half both h b m c r at j place)

-- and of bytes, by all that the row has
pub halves_whole : (both : Bool) (b : List ℕ) → Octets b → (m : Matrix) (c r at : ℕ) (s s' : Counts) → at ≡ row_place m r + 2 * c → Halves (row_half both b m c) r s → Room s
    → Joined (numbers_from both b at) at_once s s' → Halves (row_half both b m c) (r + 1) s'
halves_whole both b o m c r at s s' place = halves_joined (row_half both b m c) (numbers_from both b at) r s s' (λ h j. number_whole both h b o m c r at j place)

-- where of the parities the two low bits alone are left, each half counts the two low bits
pub halves_low : (f : Half → ℕ → ℕ → ℕ) (r : ℕ) (s s' : Counts) → Halves f r s → LowAlone at_once s s' → Halves (λ h j v. f h j v % 4) r s'
halves_low f r s s' k e =
    record {
      column =
          λ h j l.
          let c = k.column h j l in
          record {
            sum = ap (λ (x : List ℕ). half h (get_or x j 0)) e.sums ∙ c.sum ∙ sym (lows_low r (f h j));
            parity =
                ap (λ (i : ℕ). half h i) (e.parity.below j l) ∙ half_low h (get_or s.odd j 0) ∙ ap (λ (i : ℕ). i % 4) c.parity
                ∙ sym (paired_low r (f h j));
            owned = ap (λ (x : List ℕ). half h (get_or x j 0)) e.owned ∙ c.owned ∙ sym (since_low r (f h j));
          };
    }

-- what the code takes from a half that counts the two low bits of numbers g
module _ (g : ℕ → ℕ) (n : ℕ) (few : 3 * n < 256) (f : Half → ℕ → ℕ → ℕ) (s : Counts) (k : Halves f n s) (h : Half) (j : ℕ) (l : j < at_once) (e : f h j ≡ (λ v. g v % 4)) where
  column : Column (λ v. g v % 4) n (half h (get_or s.low j 0)) (half h (get_or s.odd j 0)) (half h (get_or s.since j 0))
  column = subst (λ (u : ℕ → ℕ). Column u n (half h (get_or s.low j 0)) (half h (get_or s.odd j 0)) (half h (get_or s.since j 0))) e (k.column h j l)

  pub low_taken : taken s.low (unit_of h) j ≡ lows n g
  low_taken = half_taken h (get_or s.low j 0) (omega (arith, column_low _ _ _ _ _ column)) ∙ column.sum ∙ lows_low n g

  pub odd_taken : taken s.odd (unit_of h) j ≡ paired n g % 4
  odd_taken =
      let q : half h (get_or s.odd j 0) ≡ paired n g % 4 = column.parity ∙ paired_low n g in
      half_taken h (get_or s.odd j 0) (omega arith) ∙ q

  pub since_taken : taken s.since (unit_of h) j ≡ since n (λ v. bit 0 (g v))
  since_taken = half_taken h (get_or s.since j 0) (omega (arith, column_count _ _ _ _ _ column)) ∙ column.owned ∙ since_low n g

-- a half of the third list's numbers, as the code takes it, is at most the number of rows
pub taken_few : (n : ℕ) → 3 * n < 256 → (f : Half → ℕ → ℕ → ℕ) (s : Counts) → Halves f n s → (h : Half) (j : ℕ) → j < at_once → taken s.since (unit_of h) j ≤ n
taken_few n few f s k h j l = omega (arith, half_taken h (get_or s.since j 0) (omega (arith, column_count _ _ _ _ _ (k.column h j l))), column_count _ _ _ _ _ (k.column h j l))

-- the lists are filled with what is counted of the lanes from lane c on, where a half counts them
pub put_filling : (b : List ℕ) (m : Matrix) (c : ℕ) (h : Half) (f : Half → ℕ → ℕ → ℕ) (s : Counts) (tally odd marks tally' odd' marks' : List ℕ) → 3 * m.rows < 256 → Halves f m.rows s
    → ((j : ℕ) → f h j ≡ (λ v. upper_at b m v (c + j) % 4)) → Put s m.rows c (unit_of h) tally odd marks tally' odd' marks' → Filling b m c at_once tally odd marks tally' odd' marks'
put_filling b m c h f s tally odd marks tally' odd' marks' few k e p =
    record {
      sums = filled_from c at_once (λ j. taken s.low (unit_of h) j) _ tally tally' (λ j l. low_taken (λ v. upper_at b m v (c + j)) m.rows few f s k h j l (e j)) p.sums;
      parity = filled_from c at_once (λ j. taken s.odd (unit_of h) j) _ odd odd' (λ j l. odd_taken (λ v. upper_at b m v (c + j)) m.rows few f s k h j l (e j)) p.parity;
      owner =
          filled_from c at_once (λ j. place_of m.rows (taken s.since (unit_of h) j)) _ marks marks'
          (λ j l. ap (λ (i : ℕ). place_of m.rows i) (since_taken (λ v. upper_at b m v (c + j)) m.rows few f s k h j l (e j))) p.owner;
    }

-- the lists keep their length
pub put_sized : (s : Counts) (rows c unit : ℕ) (tally odd marks tally' odd' marks' : List ℕ) → Put s rows c unit tally odd marks tally' odd' marks' → Sized (length tally) tally odd marks
    → Sized (length tally') tally' odd' marks'
put_sized s rows c unit tally odd marks tally' odd' marks' p a =
    record { sums = refl; parity = omega (arith, p.parity.size, a.parity, p.sums.size); owner = omega (arith, p.owner.size, a.owner, p.sums.size) }
