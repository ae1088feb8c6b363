-- The bytes of a window that shows a history (Manual 9.3).
use Rattle.std.specs.Prelude.{ℕ, ◌+◌, ◌*◌, ◌%◌, ◌≤◌, ◌<◌, ◌≡◌, cond, List, length, get_or}
use Rattle.matrix.specs.Bytes.{number_at}
use Rattle.history.specs.Entries.{Entry, refused, window_numbers, window_entries, refused_of_late}

-- the first 256 bytes are those of the entries; then the counts, two bytes each; the last byte is the place of the next entry
abbrev pub count_place : ℕ → ℕ
count_place number = window_entries + 2 * number

abbrev pub next_place : ℕ
next_place = count_place window_numbers

abbrev pub window_bytes : ℕ
window_bytes = next_place + 1

-- an entry's byte: 0 where it was accepted, else one more than the number of its initiator
abbrev pub entry_byte : Entry → ℕ
entry_byte e = cond (refused e) (e.initiator + 1) 0

-- for get_or, which asks what stands beyond a list's end; Shows never looks there
abbrev pub no_entry : Entry
no_entry = record { initiator = 0; outcome = 0 }

-- A window shows a history. Entry m, the oldest being 0, stands in byte m mod 256 while it is among the last 256; a byte in which none has
-- stood is 0.
pub record Shows (h : List Entry) (w : List ℕ) : Type 0 where
  pub size : length w ≡ window_bytes
  pub entries : (m : ℕ) → m < length h → length h ≤ m + window_entries → get_or w (m % window_entries) 0 ≡ entry_byte (get_or h m no_entry)
  pub unused : (m : ℕ) → length h ≤ m → m < window_entries → get_or w m 0 ≡ 0
  pub counts : (number : ℕ) → number < window_numbers → number_at w (count_place number) 2 ≡ refused_of_late number h
  pub next : get_or w next_place 0 ≡ length h % window_entries
