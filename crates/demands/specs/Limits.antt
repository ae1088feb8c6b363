-- Records within the limits are treated as before (Manual 2.3). The limits are those that hold and, before them, 64 subject names and 192 plain
-- names. A record's n and p are read from its bytes 5 and 6, so that bytes of any length and content have them.
use Rattle.std.specs.Prelude.{ℕ, ◌≤◌, ◌≡◌, ◌≢◌, ◌↔◌, List}
use Rattle.matrix.specs.declared.Fields.{Fields}
use Rattle.matrix.specs.Shape.{Limits, limits, shape_of}
use Rattle.matrix.specs.Calls.{valid_answer, held_answer, held_result, command_answer, command_result, command_bytes, run_answer, run_result, run_bytes}
use Rattle.matrix.specs.Converting.{convert_result, convert_output}
use Rattle.matrix.specs.FirstHeld.{first_held_result}
use Rattle.question.specs.Safety.{Safety}
use Rattle.question.specs.Asked.{safety_refusal, Answers}

abbrev pub limits_before : Limits
limits_before = record { subjects = 64; plain = 192 }

-- n and p are not above limits
pub record NotAbove (most : Limits) (b : List ℕ) : Type 0 where
  pub subjects : (shape_of b).n ≤ most.subjects
  pub plain : (shape_of b).p ≤ most.plain

-- Every call on a record is the same under two limits: its answer, also in numbers, and the bytes after it. The safety question's answer is any
-- that the definition allows, so that what is allowed, with the buffer after it, is the same. A C call's numbers and the program's answer are made
-- of these answers alone (`AnswersNumbers`, `AnswersInput`). What is left of a lent copy (`Lent`), and a window's calls, have no limits in their
-- definitions.
pub record SameCalls (most other : Limits) (b : List ℕ) : Type 0 where
  pub valid : valid_answer most b ≡ valid_answer other b
  pub held : (s o right : ℕ) → held_answer most b s o right ≡ held_answer other b s o right
  pub held_result_lem : (s o right : ℕ) → held_result most b s o right ≡ held_result other b s o right
  pub command : (c : Fields) → command_answer most b c ≡ command_answer other b c
  pub command_result_lem : (c : Fields) → command_result most b c ≡ command_result other b c
  pub command_bytes_lem : (c : Fields) → command_bytes most b c ≡ command_bytes other b c
  pub run : (l : List ℕ) → run_answer most b l ≡ run_answer other b l
  pub run_result_lem : (l : List ℕ) → run_result most b l ≡ run_result other b l
  pub run_bytes_lem : (l : List ℕ) → run_bytes most b l ≡ run_bytes other b l
  pub convert_result_lem : (v : ℕ) (out : List ℕ) → convert_result most v b out ≡ convert_result other v b out
  pub convert_output_lem : (v : ℕ) (out : List ℕ) → convert_output most v b out ≡ convert_output other v b out
  pub first_held : (l : List ℕ) (s o right room : ℕ) → first_held_result most b l s o right room ≡ first_held_result other b l s o right room
  pub safety : (mask s o right : ℕ) (out out' : List ℕ) (r : Safety)
      → Answers most b mask s o right out out' r ↔ Answers other b mask s o right out out' r

-- a buffer of so many bytes is enough for every question
abbrev pub enough : ℕ
enough = 257

-- Any two limits, and those before with those that hold; and under these no question with enough bytes of buffer is refused by 15.
pub record LimitsMoved : Type 0 where
  pub any : (most other : Limits) (b : List ℕ) → NotAbove most b → NotAbove other b → SameCalls most other b
  pub before : (b : List ℕ) → NotAbove limits b → SameCalls limits_before limits b
  pub room : (b : List ℕ) (mask s o right bytes : ℕ) → enough ≤ bytes → safety_refusal limits b mask s o right bytes ≢ 15
