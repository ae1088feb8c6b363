-- Worked rows of the counts (Manual 9.4), computed from the definitions and gathered under one proof.
use Rattle.std.specs.Prelude.{ℕ, ◌≡◌, refl, List, [], ◌∷◌, ◌++◌, replicate}
use Rattle.history.specs.Entries.{Entry, window_refusal, taken, refused_by, refused_of_late}
use Rattle.history.specs.Calls.{entry}

-- so many commands of number 5, each refused by 12
abbrev pub refusals : ℕ → List Entry
refusals m = replicate m (entry 5 12)

pub record Rows : Type 0 where
  pub none : refused_of_late 5 [] ≡ 0
  pub full : refused_of_late 5 (refusals 256) ≡ 256
  -- one more refusal pushes the first out, and so does a command that was accepted
  pub one_refused : refused_of_late 5 (refusals 257) ≡ 256
  pub one_accepted : refused_of_late 5 (refusals 256 ++ (entry 9 0 ∷ [])) ≡ 255
  -- one window for all numbers
  pub one_window : refused_of_late 5 (refusals 256 ++ (entry 9 8 ∷ [])) ≡ 255
  -- each number's own, and no accepted ones
  pub its_own : refused_of_late 9 (refusals 256 ++ (entry 9 8 ∷ [])) ≡ 1
  pub accepted : refused_of_late 5 (entry 5 0 ∷ []) ≡ 0
  -- an outcome of 17 is a refusal like any other, and an entry that is given 17 is not in the history
  pub seventeen : refused_of_late 5 (entry 5 17 ∷ []) ≡ 1
  pub last_number : window_refusal 63 ≡ 0
  pub first_refused : window_refusal 64 ≡ 17
  pub left_out : taken (entry 64 12 ∷ entry 5 12 ∷ []) ≡ refusals 1

pub rows : Rows
unfolding refused_by taken
rows =
    record {
      none = refl;
      full = refl;
      one_refused = refl;
      one_accepted = refl;
      one_window = refl;
      its_own = refl;
      accepted = refl;
      seventeen = refl;
      last_number = refl;
      first_refused = refl;
      left_out = refl;
    }
