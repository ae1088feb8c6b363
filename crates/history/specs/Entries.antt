-- Entries, the history that they make, and its counts of late refusals (Manual 9.1).
use Rattle.std.specs.Prelude.{ℕ, ◌+◌, ◌-◌, Bool, cond, not, ◌&&◌, List, [], ◌∷◌, eqb, ltb, length, drop}

-- the subject numbers that have a count, and the entries that are counted
abbrev pub window_numbers : ℕ
window_numbers = 64

abbrev pub window_entries : ℕ
window_entries = 256

-- An entry: who began a command, and the outcome, which is 0 where it was accepted; every other number is a refusal.
pub record Entry : Type 0 where
  pub initiator : ℕ
  pub outcome : ℕ

abbrev pub refused : Entry → Bool
refused e = not (eqb e.outcome 0)

-- A number, of an entry's initiator or of a count, that is 64 or more gets 17.
abbrev pub window_refusal : ℕ → ℕ
window_refusal number = cond (ltb number window_numbers) 0 17

-- The history: of the entries handed in, the oldest first, those that were not given 17.
unfoldable pub taken : List Entry → List Entry
taken [] = []
taken (e ∷ es) = cond (eqb (window_refusal e.initiator) 0) (e ∷ taken es) (taken es)

-- the newest 256 entries of a history, which may have fewer
abbrev pub late : List Entry → List Entry
late h = drop (length h - window_entries) h

-- how many of the entries are refusals of a number's commands
unfoldable pub refused_by : ℕ → List Entry → ℕ
refused_by number [] = 0
refused_by number (e ∷ es) = cond (refused e && eqb e.initiator number) 1 0 + refused_by number es

-- The count that is shown for a number.
abbrev pub refused_of_late : ℕ → List Entry → ℕ
refused_of_late number h = refused_by number (late h)
