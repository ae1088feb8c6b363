-- What the three calls on a window promise (Manual 9.2), for bytes of any length and content. The histories h are any lists of entries. Where
-- the bytes show none, the counts read from them are left free, and so is what an entry makes of as many bytes as a window has. All else is
-- said here.
use Rattle.std.specs.Prelude.{ℕ, ◌≡◌, List, [], ◌∷◌, ◌++◌, length}
use Rattle.matrix.specs.declared.Numbers.{Numbers}
use Rattle.matrix.specs.Numbers.{numbers}
use Rattle.history.specs.Entries.{Entry, window_refusal, refused_of_late}
use Rattle.history.specs.Window.{window_bytes, Shows}

abbrev pub entry : ℕ → ℕ → Entry
entry initiator outcome = record { initiator = initiator; outcome = outcome }

-- Bytes w become an empty window w'; bytes of another length stay as they are.
pub record Emptied (w w' : List ℕ) : Type 0 where
  pub shows : length w ≡ window_bytes → Shows [] w'
  pub other : (length w ≡ window_bytes → ⊥) → w' ≡ w

-- One more entry: given 17, with every byte as it was, or taken. A window that shows a history then shows it with the entry as the newest.
pub record Put (w : List ℕ) (initiator outcome : ℕ) (w' : List ℕ) (r : Numbers) : Type 0 where
  pub answer : r ≡ numbers (window_refusal initiator) 0
  pub refused : (window_refusal initiator ≡ 0 → ⊥) → w' ≡ w
  pub shows : window_refusal initiator ≡ 0 → (h : List Entry) → Shows h w → Shows (h ++ (entry initiator outcome ∷ [])) w'
  pub other : (length w ≡ window_bytes → ⊥) → w' ≡ w

-- The count of a number: refused by 17 with value 0; or, of a window that shows a history, the history's.
pub record Counted (w : List ℕ) (number : ℕ) (r : Numbers) : Type 0 where
  pub refusal : r.refusal ≡ window_refusal number
  pub refused : (window_refusal number ≡ 0 → ⊥) → r.value ≡ 0
  pub shown : window_refusal number ≡ 0 → (h : List Entry) → Shows h w → r.value ≡ refused_of_late number h
