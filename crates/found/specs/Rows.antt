-- The rows of Manual 11.2 about the first command after which a right is held, as theorems about the definitions.
use Rattle.std.specs.Prelude.{ℕ, ◌≡◌, refl, List, [], ◌∷◌}
use Rattle.matrix.specs.Numbers.{numbers}
use Rattle.matrix.specs.Bounded.{any, all, count, least}
use Rattle.matrix.specs.Owners.{walk_from}
use Rattle.matrix.specs.Tests.{first_failed}
use Rattle.matrix.specs.Step.{refusal_of, refusal, links, next}
use Rattle.matrix.specs.Bytes.{number_at, bit}
use Rattle.matrix.specs.Shape.{limits, shape_of}
use Rattle.matrix.specs.Reading.{cell_at, bit_at, state_of}
use Rattle.matrix.specs.Record.{climb, valid_matrix, record_refusal}
use Rattle.matrix.specs.CommandList.{well_formed, commands_from}
use Rattle.matrix.specs.Calls.{refusal_on, next_on}
use Rattle.matrix.specs.FirstHeld.{first_from, first_held_refusal, first_held_result}
use Rattle.frame.specs.StationBytes.{A}

-- the list 4 (2, 1, 3, 0), 8 (2, 1, 3, 0), 13 (0, 2), 13 (1, 2): on A the third is refused by 12
unfoldable pub refused_third : List ℕ
refused_third = 1 ∷ 0 ∷ 0 ∷ 0 ∷ 24 ∷ 5 ∷ 4 ∷ 2 ∷ 1 ∷ 3 ∷ 0 ∷ 5 ∷ 8 ∷ 2 ∷ 1 ∷ 3 ∷ 0 ∷ 5 ∷ 13 ∷ 0 ∷ 2 ∷ 0 ∷ 0 ∷ 5 ∷ 13 ∷ 1 ∷ 2 ∷ 0 ∷ 0 ∷ []

-- The rows, under one proof. A copy of A's 31 bytes is enough.
pub record Rows : Type 0 where
  -- Subject 1 comes to hold r0 over log 3 by the first command, though it does not any more after the second.
  pub by_first : first_held_result limits A refused_third 1 3 2 31 ≡ numbers 0 2
  -- Subject 2 owns log 3, and so holds r0 over it at the start.
  pub at_start : first_held_result limits A refused_third 2 3 2 31 ≡ numbers 0 1
  -- Subject 1 would own log 3 after the fourth command, but the third is refused.
  pub refused_before : first_held_result limits A refused_third 1 3 0 31 ≡ numbers 0 0
  -- With a copy of 30 bytes it is refused by 15, and so with a list of the wrong form too; with 31 that is 16.
  pub short_copy : first_held_result limits A refused_third 1 3 2 30 ≡ numbers 15 0
  pub short_copy_first : first_held_result limits A [] 1 3 2 30 ≡ numbers 15 0
  pub no_list : first_held_result limits A [] 1 3 2 31 ≡ numbers 16 0
  -- Right 16 is none of version 1: 7, whatever the copy.
  pub no_right : first_held_result limits A refused_third 1 3 16 0 ≡ numbers 7 0

pub rows : Rows
unfolding A refused_third any all count least walk_from first_failed refusal_of refusal links next number_at bit shape_of cell_at bit_at state_of climb valid_matrix record_refusal well_formed commands_from refusal_on next_on first_from first_held_refusal first_held_result
rows =
    record {
      by_first = refl;
      at_start = refl;
      refused_before = refl;
      short_copy = refl;
      short_copy_first = refl;
      no_list = refl;
      no_right = refl;
    }
