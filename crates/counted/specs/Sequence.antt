-- What is asked of the window (Manual 9): an entry put and a count read are answered, or given 17 exactly where its condition holds, and the
-- counts of a window that began empty are those of its history.
use Rattle.std.specs.Prelude.{ℕ, ◌≤◌, ◌≡◌, ◌≢◌, cond, List, [], ◌∷◌, ltb, length}
use Rattle.matrix.specs.declared.Numbers.{Numbers}
use Rattle.matrix.specs.Numbers.{numbers}
use Rattle.history.specs.Entries.{Entry, window_numbers, taken, refused_of_late}
use Rattle.history.specs.Window.{window_bytes}
use Rattle.history.specs.Calls.{Emptied, Put, Counted}
use Rattle.demands.specs.First.{Condition, condition, Numbered, Among}

-- 17: an entry's initiator, or the number whose count is read, is 64 or more
abbrev pub window_conditions : ℕ → List Condition
window_conditions number = condition 17 (window_numbers ≤ number) ∷ []

-- an answer is 0 or 17, and 17 exactly where the condition holds
pub record Refuses (given : ℕ) (r : Numbers) : Type 0 where
  pub number : Numbered (window_conditions given) r.refusal
  pub only : Among r.refusal (0 ∷ 17 ∷ [])

-- Entries handed in one after another, the oldest first, each to the bytes that the one before it left: from w they lead to w'.
abbrev pub Puts : List ℕ → List Entry → List ℕ → Type 0
Puts w [] w' = w' ≡ w
Puts w (e ∷ es) w' = (v : List ℕ) × (r : Numbers) × Put w e.initiator e.outcome v r × Puts v es w'

-- the answer to a count after these entries, those given 17 among them
abbrev pub count_answer : List Entry → ℕ → Numbers
count_answer es number = cond (ltb number window_numbers) (numbers 0 (refused_of_late number (taken es))) (numbers 17 0)

pub record Sequence : Type 0 where
  -- an entry that is given 17 leaves every byte as it was
  pub put : {w w' : List ℕ} {initiator outcome : ℕ} {r : Numbers} → Put w initiator outcome w' r → Refuses initiator r × (r.refusal ≢ 0 → w' ≡ w)
  pub count : {w : List ℕ} {number : ℕ} {r : Numbers} → Counted w number r → Refuses number r
  -- whatever entries are put into a window that was emptied, each count read afterwards is the definition's
  pub counts : {w empty w' : List ℕ} {number : ℕ} {r : Numbers} (es : List Entry)
      → length w ≡ window_bytes → Emptied w empty → Puts empty es w' → Counted w' number r → r ≡ count_answer es number
