-- The list that is written is of the right form, has the commands given, and leaves the bytes after it as they were.
use Rattle.std.specs.Prelude.{ℕ, ◌*◌, ◌/◌, ◌≤◌, ◌<◌, ◌≡◌, List, set, take}
use Rattle.std.proofs.Common.{◌∙◌, length-set, get_or-set_same, get_or-set_other}
use native.Mathlib.Omega.{arith}
use Rattle.std.proofs.Math.ListN.{length, get_or}
use Rattle.matrix.specs.declared.Fields.{Fields}
use Rattle.matrix.specs.Bytes.{number_at}
use Rattle.matrix.specs.CommandList.{list_head, record_bytes}
use Rattle.codec.specs.Numbers.{length_set_number, get_or_set_number_other, number_at_set_same}
use Rattle.question.specs.Asked.{list_room}
use Rattle.writing.specs.Put.{most_commands, put_head, put_list}

-- ---- the head
pub length_put_head : (out : List ℕ) (count : ℕ) → length (put_head out count) ≡ length out
unfolding put_head
length_put_head out count = length_set_number (set out 0 1) 1 4 (record_bytes * count) ∙ length-set out 0 1

pub put_head_version : (out : List ℕ) (count : ℕ) → 0 < length out → get_or (put_head out count) 0 0 ≡ 1
unfolding put_head
put_head_version out count h =
    get_or_set_number_other (set out 0 1) 1 4 (record_bytes * count) 0 (λ p q. omega arith) ∙ get_or-set_same out 0 1 0 h

pub put_head_number : (out : List ℕ) (count : ℕ) → list_head ≤ length out → count ≤ most_commands → number_at (put_head out count) 1 4 ≡ record_bytes * count
unfolding put_head
put_head_number out count h few =
    number_at_set_same (set out 0 1) 1 4 (record_bytes * count) (let e : length (set out 0 1) ≡ length out = length-set out 0 1 in omega arith) (omega arith)

pub put_head_later : (out : List ℕ) (count i : ℕ) → list_head ≤ i → get_or (put_head out count) i 0 ≡ get_or out i 0
unfolding put_head
put_head_later out count i h =
    get_or_set_number_other (set out 0 1) 1 4 (record_bytes * count) i (λ p q. omega arith) ∙ get_or-set_other out 0 i 1 0 (λ e. omega arith)

-- the bytes of whole commands
pub commands_number : (m : ℕ) → record_bytes * m / record_bytes ≡ m
commands_number m = omega arith

-- the part of the buffer that the list takes
abbrev pub written : List ℕ → List Fields → List ℕ
written out cs = take (list_room (length cs)) (put_list out cs)
