-- What the code makes of a window's bytes, one change after another.
use Rattle.std.specs.Prelude.{ℕ, ◌+◌, ◌-◌, ◌*◌, ◌/◌, ◌%◌, cond, List, eqb, ltb, get_or, set}
use Rattle.matrix.specs.Bytes.{number_at, set_number}
use Rattle.history.specs.Entries.{window_numbers, window_entries}
use Rattle.history.specs.Window.{count_place, next_place}

-- 1 for the outcome of a refused command
abbrev pub refused_one : ℕ → ℕ
refused_one outcome = cond (eqb outcome 0) 0 1

-- the initiator of the entry with this byte, the last number where it was accepted; 1 where it was refused
abbrev pub initiator_of : ℕ → ℕ
initiator_of b = (b + (window_numbers - 1)) % window_numbers

abbrev pub refused_bit : ℕ → ℕ
refused_bit b = (b + 255) / 256

-- the entry with this byte has left: the count of its initiator is one lower if it was refused
unfoldable pub lowered : List ℕ → ℕ → List ℕ
lowered w b =
    cond (ltb window_numbers b) w
    (set_number w (count_place (initiator_of b)) 2 ((number_at w (count_place (initiator_of b)) 2 + 65536 - refused_bit b) % 65536))

-- the byte at the place of the next entry is written, and that place moves on
unfoldable pub placed : List ℕ → ℕ → ℕ → List ℕ
placed w place byte = set (set w place byte) next_place ((place + 1) % window_entries)

-- a count that is higher by some
unfoldable pub raised : List ℕ → ℕ → ℕ → List ℕ
raised w number more = set_number w (count_place number) 2 (number_at w (count_place number) 2 + more)

-- an entry has taken the place of the one that had to leave
unfoldable pub entered : List ℕ → ℕ → ℕ → List ℕ
entered w number refused =
    raised (placed (lowered w (get_or w (get_or w next_place 0) 0)) (get_or w next_place 0) (refused * (number + 1))) number refused
