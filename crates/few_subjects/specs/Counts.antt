-- The counts of a subject, from the numbers in which several lanes are counted at once.
use Rattle.std.specs.Prelude.{ℕ, ◌+◌, ◌*◌, ◌/◌, ◌%◌, ◌≤◌, ◌<◌, ◌≡◌, Bool, false, cond, ◌&&◌, List, eqb, get_or}
use Rattle.std.proofs.Common.{arith, sym, ◌∙◌, ap}
use Rattle.matrix.specs.Bytes.{bit}
use Rattle.lanes.specs.declared.Matrix.{Matrix}
use Rattle.lanes.specs.Lanes.{lows, paired, since, upper_at, bit_in}
use Rattle.lanes.specs.LaneLaws.{low_bits}
use Rattle.columns.specs.Checks.{counts}
use Rattle.tallies.specs.declared.Counts.{Counts}
use Rattle.tallies.specs.Blocks.{at_once, Column, column_low, column_count}
use Rattle.tallies.specs.Halves.{upper, half, row_half, taken, Halves}

-- the counts of subject s fit: how many rows own it and control it, and the parities, are the upper halves of numbers
unfoldable pub few_test : Counts → ℕ → Bool
few_test k s = counts s (taken k.low 256 s) (taken k.odd 256 s)

pub few_test_lem : (k : Counts) (s : ℕ) (t : Bool) → t ≡ counts s (taken k.low 256 s) (taken k.odd 256 s) → t ≡ few_test k s
unfolding few_test
few_test_lem k s t e = e

-- the numbers after all rows
module _ (b : List ℕ) (m : Matrix) (k : Counts) (e : Halves (row_half false b m 0) m.rows k) (few : 3 * m.rows < 256) (s : ℕ) (l : s < at_once) where
  column : Column (λ v. upper_at b m v (0 + s)) m.rows (get_or k.low s 0 / 256) (get_or k.odd s 0 / 256) (get_or k.since s 0 / 256)
  unfolding row_half half
  column = e.column upper s l

  here : 0 + s ≡ s
  here = omega arith

  pub tally_is : taken k.low 256 s ≡ lows m.rows (λ v. upper_at b m v s)
  tally_is =
      let q : taken k.low 256 s ≡ get_or k.low s 0 / 256 = omega (arith, column_low _ _ _ _ _ column) in
      q ∙ column.sum ∙ ap (λ (i : ℕ). lows m.rows (λ v. upper_at b m v i)) here

  -- of the parity of all bits, that of the two low ones
  pub odd_is : taken k.odd 256 s % 4 ≡ paired m.rows (λ v. upper_at b m v s) % 4
  odd_is =
      let q : taken k.odd 256 s % 4 ≡ get_or k.odd s 0 / 256 % 4 = omega arith in
      q ∙ ap (λ (i : ℕ). i % 4) (column.parity ∙ ap (λ (i : ℕ). paired m.rows (λ v. upper_at b m v i)) here)

  pub since_is : taken k.since 256 s ≡ since m.rows (bit_in b m 0 s)
  since_is =
      let q : taken k.since 256 s ≡ get_or k.since s 0 / 256 = omega (arith, column_count _ _ _ _ _ column) in
      q ∙ column.owned ∙ ap (λ (i : ℕ). since m.rows (bit_in b m 0 i)) here

  pub since_few : taken k.since 256 s ≤ m.rows
  since_few = omega (arith, column_count _ _ _ _ _ column)

-- the counts look at the two low bits of a parity alone
pub counts_low : (s tally x y : ℕ) → x % 4 ≡ y % 4 → counts s tally x ≡ counts s tally y
counts_low s tally x y e =
    let q : bit 1 x ≡ bit 1 y = sym (low_bits x).1 ∙ ap (bit 1) e ∙ (low_bits y).1 in
    ap (λ (t : Bool). cond (eqb s 0) (eqb tally 2 && t) (eqb tally (cond t 3 5))) q
