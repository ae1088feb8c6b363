-- The rows of Manual 11.2 about validity, conversions, held questions and commands, as theorems about the definitions.
use Rattle.std.specs.Prelude.{◌≡◌, refl, true, false, [], set, replicate}
use Rattle.matrix.specs.declared.Name.TheVariants.{Plain}
use Rattle.matrix.specs.Answers.{Accepted, Refused}
use Rattle.matrix.specs.Answers.{Holding}
use Rattle.matrix.specs.Numbers.{numbers}
use Rattle.matrix.specs.Bounded.{any, all, count, least}
use Rattle.matrix.specs.State.{exists_name}
use Rattle.matrix.specs.Owners.{walk_from}
use Rattle.matrix.specs.Tests.{first_failed}
use Rattle.matrix.specs.Step.{refusal_of, refusal, links, next}
use Rattle.matrix.specs.Bytes.{number_at, bytes_of_number, bit, from_bits, joined}
use Rattle.matrix.specs.Shape.{limits, shape_of}
use Rattle.matrix.specs.Reading.{cell_at, bit_at, state_of, bytes_of}
use Rattle.matrix.specs.Record.{climb, valid_matrix, record_refusal}
use Rattle.matrix.specs.Calls.{valid_answer, refusal_on, links_on, next_on, command_answer, command_bytes, held_refusal, held_answer}
use Rattle.matrix.specs.Converting.{basic_from, convert_refusal, converted, convert_result, convert_output}
use Rattle.frame.specs.StationBytes.{A, A2, A2_high, A_ends_00, A_handed, A_plain, A_starred, B, transfer_own, transfer_plain, delete_plain}

-- The rows, under one proof.
pub record Stations : Type 0 where
  -- A is valid.
  pub a_valid : valid_answer limits A ≡ true
  -- So is A with last byte 00, in which log 3 is absent.
  pub a_ends_00_valid : valid_answer limits A_ends_00 ≡ true
  pub log_there : exists_name (state_of A) (Plain 3) ≡ true
  pub log_absent : exists_name (state_of A_ends_00) (Plain 3) ≡ false
  -- A with byte 0 = 00 is of no version. With byte 0 = 02 it is read as one of version 2, and its L is wrong.
  pub version_0 : command_answer limits (set A 0 0) (transfer_own 1 1 2) ≡ Refused 2 0
  pub version_2 : command_answer limits (set A 0 2) (transfer_own 1 1 2) ≡ Refused 4 0
  -- A2 is valid.
  pub a2_valid : valid_answer limits A2 ≡ true
  -- To version 2 A becomes A2, of 55 bytes, and to version 1 A2 becomes A, of 31 bytes.
  pub a_to_2 : convert_result limits 2 A (replicate 55 0) ≡ numbers 0 55
  pub a_to_2_output : convert_output limits 2 A (replicate 55 0) ≡ A2
  pub a2_to_1 : convert_result limits 1 A2 (replicate 31 0) ≡ numbers 0 31
  pub a2_to_1_output : convert_output limits 1 A2 (replicate 31 0) ≡ A
  -- With r7 set in its last cell A2 does not become a record of version 1: 18, also where there is no output at all.
  pub a2_high_to_1 : convert_result limits 1 A2_high [] ≡ numbers 18 0
  -- Right 16 is r7: on A2 subject 1 does not hold it over log 3, and on A it is out of bounds.
  pub a2_held : held_answer limits A2 1 3 16 ≡ Holding.No
  pub a_held : held_answer limits A 1 3 16 ≡ Holding.Refused 7
  -- Subject 2 owns log 3: on A it holds r0 over it, plain (2) and starred (3), and on A2 r7 and r14* too. It doesn't hold control.
  pub owner_plain : held_answer limits A 2 3 2 ≡ Holding.Yes
  pub owner_starred : held_answer limits A 2 3 3 ≡ Holding.Yes
  pub owner_high : held_answer limits A2 2 3 16 ≡ Holding.Yes
  pub owner_last : held_answer limits A2 2 3 31 ≡ Holding.Yes
  pub owner_control : held_answer limits A 2 3 1 ≡ Holding.No
  -- It has no star over log 3, and so may not transfer r0.
  pub owner_transfers : command_answer limits A (transfer_plain 2 1 3) ≡ Refused 12 0
  -- Subject 1 controls itself and doesn't own itself: it holds no basic right over itself.
  pub controller_plain : held_answer limits A 1 1 2 ≡ Holding.No
  -- On A code 3 (0, 2, 1) is refused by 13, with 1 link, and no byte changes.
  pub walk_meets : command_answer limits A (transfer_own 0 2 1) ≡ Refused 13 1
  pub walk_meets_bytes : command_bytes limits A (transfer_own 0 2 1) ≡ A
  -- On A code 3 (1, 1, 2) is accepted with 1 link; here s = i, so that no byte changes (Manual 5.4).
  pub to_itself : command_answer limits A (transfer_own 1 1 2) ≡ Accepted 1
  pub to_itself_bytes : command_bytes limits A (transfer_own 1 1 2) ≡ A
  -- On A code 3 (2, 1, 3) is accepted with 0 links, and log 3 is 1's then; where log 3 is absent it is refused by 10.
  pub log_handed : command_answer limits A (transfer_own 2 1 3) ≡ Accepted 0
  pub log_handed_bytes : command_bytes limits A (transfer_own 2 1 3) ≡ A_handed
  pub log_missing : command_answer limits A_ends_00 (transfer_own 2 1 3) ≡ Refused 10 0
  -- On A code 8 (2, 1, 3, 0) is refused by 19, since 1 has no r0 over log 3, and no byte changes. So is 8 (2, 2, 3, 0): 2 owns log 3, but has not
  -- the bit of r0. 8 (0, 1, 3, 0) is refused by 12.
  pub delete_unset : command_answer limits A (delete_plain 2 1 3) ≡ Refused 19 0
  pub delete_unset_bytes : command_bytes limits A (delete_plain 2 1 3) ≡ A
  pub delete_owned : command_answer limits A (delete_plain 2 2 3) ≡ Refused 19 0
  pub delete_unentitled : command_answer limits A (delete_plain 0 1 3) ≡ Refused 12 0
  -- Where 1 has r0 over log 3, 8 (2, 1, 3, 0) is accepted and leaves A. Where it has r0* alone, it is refused by 19, and no byte changes.
  pub delete_set : command_answer limits A_plain (delete_plain 2 1 3) ≡ Accepted 0
  pub delete_set_bytes : command_bytes limits A_plain (delete_plain 2 1 3) ≡ A
  pub delete_starred : command_answer limits A_starred (delete_plain 2 1 3) ≡ Refused 19 0
  pub delete_starred_bytes : command_bytes limits A_starred (delete_plain 2 1 3) ≡ A_starred
  -- A with byte 5 = 29 has 41 subject names, and with byte 6 = 79 it has 121 plain names: both are refused by 3. With 40 and with 120 names 3 is
  -- passed, and A's L is wrong.
  pub subjects_over : command_answer limits (set A 5 41) (transfer_own 1 1 2) ≡ Refused 3 0
  pub subjects_most : command_answer limits (set A 5 40) (transfer_own 1 1 2) ≡ Refused 4 0
  pub logs_over : command_answer limits (set A 6 121) (transfer_own 1 1 2) ≡ Refused 3 0
  pub logs_most : command_answer limits (set A 6 120) (transfer_own 1 1 2) ≡ Refused 4 0
  -- B is valid as well.
  pub b_valid : valid_answer limits B ≡ true

pub stations : Stations
unfolding A A2 A2_high A_ends_00 A_handed A_plain A_starred B any all count least walk_from first_failed refusal_of refusal links next number_at bytes_of_number bit from_bits joined shape_of cell_at bit_at state_of bytes_of climb valid_matrix record_refusal valid_answer refusal_on links_on next_on command_answer command_bytes held_refusal held_answer basic_from convert_refusal converted convert_result convert_output
stations =
    record {
      a_valid = refl;
      a_ends_00_valid = refl;
      log_there = refl;
      log_absent = refl;
      version_0 = refl;
      version_2 = refl;
      a2_valid = refl;
      a_to_2 = refl;
      a_to_2_output = refl;
      a2_to_1 = refl;
      a2_to_1_output = refl;
      a2_high_to_1 = refl;
      a2_held = refl;
      a_held = refl;
      owner_plain = refl;
      owner_starred = refl;
      owner_high = refl;
      owner_last = refl;
      owner_control = refl;
      owner_transfers = refl;
      controller_plain = refl;
      walk_meets = refl;
      walk_meets_bytes = refl;
      to_itself = refl;
      to_itself_bytes = refl;
      log_handed = refl;
      log_handed_bytes = refl;
      log_missing = refl;
      delete_unset = refl;
      delete_unset_bytes = refl;
      delete_owned = refl;
      delete_unentitled = refl;
      delete_set = refl;
      delete_set_bytes = refl;
      delete_starred = refl;
      delete_starred_bytes = refl;
      subjects_over = refl;
      subjects_most = refl;
      logs_over = refl;
      logs_most = refl;
      b_valid = refl;
    }
