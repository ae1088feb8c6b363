-- Laws of the changes to a window's bytes: the counts after an entry has left, the bytes of the entries and their next place.
use Rattle.std.specs.Prelude.{ℕ, ◌+◌, ◌≤◌, ◌<◌, ◌≡◌, List, get_or}
use Rattle.std.proofs.Common.{arith}
use Rattle.std.proofs.Math.ListN.{length}
use Rattle.matrix.specs.Bytes.{number_at, set_number}
use Rattle.codec.specs.Numbers.{length_set_number, get_or_set_number_other, number_at_set_other, number_at_set_same}
use Rattle.history.specs.Entries.{window_numbers, window_entries}
use Rattle.history.specs.Window.{count_place, next_place, window_bytes}
use Rattle.window.specs.Changed.{raised}

-- a byte that is no count's
abbrev pub OtherByte : ℕ → Type 0
OtherByte j = window_entries ≤ j → j < next_place → ⊥

module _ (w : List ℕ) (size : length w ≡ window_bytes) (number v : ℕ) (named : number < window_numbers) where
  pub set_byte : (j : ℕ) → OtherByte j → get_or (set_number w (count_place number) 2 v) j 0 ≡ get_or w j 0
  set_byte j h = get_or_set_number_other w (count_place number) 2 v j (λ l u. h (omega arith) (omega arith))

  -- the counts after one was stored
  pub set_same : v < 65536 → number_at (set_number w (count_place number) 2 v) (count_place number) 2 ≡ v
  set_same l = number_at_set_same w (count_place number) 2 v (omega arith) l

  pub set_other : (other : ℕ) → (other ≡ number → ⊥) → number_at (set_number w (count_place number) 2 v) (count_place other) 2 ≡ number_at w (count_place other) 2
  set_other other h = number_at_set_other w (count_place number) 2 v (count_place other) 2 (λ l u. h (omega arith))

-- ---- a count is higher
pub length_raised : (w : List ℕ) (number more : ℕ) → length (raised w number more) ≡ length w
unfolding raised
length_raised w number more = length_set_number w (count_place number) 2 _

module _ (w : List ℕ) (size : length w ≡ window_bytes) (number more : ℕ) (named : number < window_numbers) where
  pub raised_byte : (j : ℕ) → OtherByte j → get_or (raised w number more) j 0 ≡ get_or w j 0
  unfolding raised
  raised_byte j h = set_byte w size number _ named j h

  pub raised_same : number_at w (count_place number) 2 + more < 65536 → number_at (raised w number more) (count_place number) 2 ≡ number_at w (count_place number) 2 + more
  unfolding raised
  raised_same l = set_same w size number _ named l

  pub raised_other : (other : ℕ) → (other ≡ number → ⊥) → number_at (raised w number more) (count_place other) 2 ≡ number_at w (count_place other) 2
  unfolding raised
  raised_other other h = set_other w size number _ named other h
