-- The safety question on a record: 1 to 5, then 7, then 15.
use Rattle.std.specs.Prelude.{ℕ, ◌+◌, ◌*◌, ◌^◌, ◌≡◌, ◌⊎◌, Bool, true, ◌&&◌, List, [], ◌∷◌, eqb, ltb, leb, length, take, drop}
use Rattle.matrix.specs.declared.Fields.{Fields}
use Rattle.matrix.specs.declared.Shape.{Shape}
use Rattle.matrix.specs.Names.{name_of}
use Rattle.matrix.specs.Rights.{right_of}
use Rattle.matrix.specs.Tests.{test, first_failed}
use Rattle.matrix.specs.Shape.{Limits, shape_of, basics_of}
use Rattle.matrix.specs.Reading.{state_of}
use Rattle.matrix.specs.Record.{record_refusal}
use Rattle.matrix.specs.CommandList.{list_head, record_bytes, well_formed, commands_of}
use Rattle.matrix.specs.Calls.{question_fits}
use Rattle.question.specs.Safety.{Safety}
use Rattle.question.specs.Numbers.{safety_numbers}
use Rattle.question.specs.Trust.{trusted_by}
use Rattle.question.specs.Safe.{Safe}
use Rattle.question.specs.Leaks.{LeaksBy}

-- the mask has no bit from n on: else refusal 7
abbrev pub trust_fits : Shape → ℕ → Bool
trust_fits f mask = ltb mask (2 ^ f.n)

-- the bytes of a list of so many commands; a buffer without room for n + 2 is refused by 15
abbrev pub list_room : ℕ → ℕ
list_room commands = list_head + record_bytes * commands

unfoldable pub safety_refusal : Limits → List ℕ → ℕ → ℕ → ℕ → ℕ → ℕ → ℕ
safety_refusal most b mask s o right room =
    first_failed (test (record_refusal most b) (eqb (record_refusal most b) 0) ∷
    test 7 (question_fits (shape_of b) s o right && trust_fits (shape_of b) mask) ∷
    test 15 (leb (list_room ((shape_of b).n + 2)) room) ∷ [])

-- The question that is asked of a record's state.
abbrev pub SafeRecord : List ℕ → ℕ → ℕ → ℕ → ℕ → Type 0
SafeRecord b mask s o right =
    Safe (basics_of (shape_of b)) (state_of b) (trusted_by mask) s (name_of (shape_of b).n o) (right_of right)

abbrev pub LeaksRecord : List ℕ → ℕ → ℕ → ℕ → ℕ → List Fields → Type 0
LeaksRecord b mask s o right cs =
    LeaksBy (shape_of b) (state_of b) (trusted_by mask) s (name_of (shape_of b).n o) (right_of right) cs

-- After the answer "leaks" by so many commands the buffer `out` has become `out'`: it begins with a list of these commands, which gets
-- there, and the bytes after that list are as they were (Manual 8.4).
pub record Written (b : List ℕ) (mask s o right : ℕ) (out out' : List ℕ) (commands : ℕ) : Type 0 where
  pub formed : well_formed (take (list_room commands) out') ≡ true
  pub number : length (commands_of (take (list_room commands) out')) ≡ commands
  pub leaks : LeaksRecord b mask s o right (commands_of (take (list_room commands) out'))
  pub later : drop (list_room commands) out' ≡ drop (list_room commands) out

-- The answer to a question that is not turned down: safe, and the buffer unchanged, or leaks by a list that is written.
abbrev pub Decided : List ℕ → ℕ → ℕ → ℕ → ℕ → List ℕ → List ℕ → Safety → Type 0
Decided b mask s o right out out' r =
    ((r ≡ Safety.Safe) × (out' ≡ out) × SafeRecord b mask s o right)
    ⊎ ((commands : ℕ) × (r ≡ Safety.Leaks commands) × Written b mask s o right out out' commands)

-- What the call answers under limits of n and p: a refusal by its number with the buffer unchanged, or the question decided.
pub record Answers (most : Limits) (b : List ℕ) (mask s o right : ℕ) (out out' : List ℕ) (r : Safety) : Type 0 where
  pub refused : (safety_refusal most b mask s o right (length out) ≡ 0 → ⊥) → (r ≡ Safety.Refused (safety_refusal most b mask s o right (length out))) × (out' ≡ out)
  pub decided : safety_refusal most b mask s o right (length out) ≡ 0 → Decided b mask s o right out out' r
  -- in numbers: the refusal, 0 where the question is decided
  pub number : (safety_numbers r).refusal ≡ safety_refusal most b mask s o right (length out)
  pub size : length out' ≡ length out
