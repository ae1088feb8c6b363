-- The list that is written is of the right form, has the commands given, and leaves the bytes after it as they were.
use Rattle.std.specs.Prelude.{ℕ, suc, ◌+◌, ◌*◌, ◌/◌, ◌≤◌, ◌<◌, ◌≡◌, true, List, [], ◌∷◌, ◌++◌, take, drop}
use Rattle.std.proofs.Common.{add-zero, sym, ◌∙◌, get_or-take, length-take-le}
use native.Mathlib.Omega.{arith}
use Rattle.std.proofs.Math.Path.{ap}
use Rattle.std.proofs.Math.ListN.{length, get_or}
use Rattle.matrix.specs.declared.Fields.{Fields}
use Rattle.matrix.specs.Bytes.{number_at}
use Rattle.matrix.specs.CommandList.{list_head, record_bytes, length_byte, command_place, well_formed, commands_from, commands_of}
use Rattle.codec.specs.Numbers.{number_at_agree}
use Rattle.lists.specs.Formed.{is_formed}
use Rattle.question.specs.Asked.{list_room}
use Rattle.writing.specs.Put.{most_commands, put_command, put_all, put_list}
use Rattle.writing.specs.Stores.{drop_agree}
use Rattle.writing.specs.Commands.{commands_agree}
use Rattle.writing.proofs.Commands.{length_put_all, put_all_other, put_all_lengths, put_all_commands}
use Rattle.writing.specs.Laws.{commands_number, length_put_head, put_head_later, put_head_number, put_head_version, written}

-- ---- the commands
-- part after part
pub put_all_append : (out : List ℕ) (j : ℕ) (cs ds : List Fields) → put_all out j (cs ++ ds) ≡ put_all (put_all out j cs) (j + length cs) ds
unfolding put_all
put_all_append out j [] ds = ap (λ (i : ℕ). put_all out i ds) (sym (add-zero j))
put_all_append out j (c ∷ cs) ds =
    let e : suc j + length cs ≡ j + suc (length cs) = omega arith in
    put_all_append (put_command out j c) (suc j) cs ds ∙ ap (λ (i : ℕ). put_all (put_all (put_command out j c) (suc j) cs) i ds) e

-- ---- the whole list
pub list_size : (out : List ℕ) (cs : List Fields) → length (put_list out cs) ≡ length out
unfolding put_list
list_size out cs = length_put_head (put_all out 0 cs) _ ∙ length_put_all out 0 cs

pub list_later : (out : List ℕ) (cs : List Fields) → drop (list_room (length cs)) (put_list out cs) ≡ drop (list_room (length cs)) out
unfolding put_list
list_later out cs =
    drop_agree (put_list out cs) out (list_room (length cs)) (list_size out cs)
    (λ i h. put_head_later (put_all out 0 cs) _ i (omega arith) ∙ put_all_other out 0 cs i (λ p q. omega arith))

module _ (out : List ℕ) (cs : List Fields) (few : length cs ≤ most_commands) (room : list_room (length cs) ≤ length out) where
  written_at : (i : ℕ) → i < list_room (length cs) → get_or (written out cs) i 0 ≡ get_or (put_list out cs) i 0
  written_at i h = get_or-take (list_room (length cs)) (put_list out cs) i 0 h

  -- a byte of the commands
  written_command : (i : ℕ) → list_head ≤ i → i < list_room (length cs) → get_or (written out cs) i 0 ≡ get_or (put_all out 0 cs) i 0
  unfolding put_list
  written_command i l h = written_at i h ∙ put_head_later (put_all out 0 cs) _ i l

  long : length (written out cs) ≡ list_room (length cs)
  long = length-take-le (list_room (length cs)) (put_list out cs) (let e : length (put_list out cs) ≡ length out = list_size out cs in omega arith)

  version : get_or (written out cs) 0 0 ≡ 1
  unfolding put_list
  version =
      written_at 0 (omega arith)
      ∙ put_head_version (put_all out 0 cs) _ (let e : length (put_all out 0 cs) ≡ length out = length_put_all out 0 cs in omega arith)

  number : number_at (written out cs) 1 4 ≡ record_bytes * length cs
  unfolding put_list
  number =
      number_at_agree (written out cs) (put_list out cs) 1 1 4 (λ j h. written_at (1 + j) (omega arith))
      ∙ put_head_number (put_all out 0 cs) (length cs) (let e : length (put_all out 0 cs) ≡ length out = length_put_all out 0 cs in omega arith) few

  pub list_formed : well_formed (take (list_room (length cs)) (put_list out cs)) ≡ true
  list_formed = is_formed (written out cs) (record { long = omega (arith, long); size = omega (arith, number, long); bounded = omega (arith, number); whole = omega (arith, number) }) version right
    where
      right : (j : ℕ) → j < number_at (written out cs) 1 4 / record_bytes → get_or (written out cs) (command_place j) 0 ≡ length_byte
      right j h =
          let b : j < length cs = omega (arith, number) in
          let e : command_place j ≡ command_place (0 + j) = omega arith in
          written_command (command_place j) (omega arith) (omega arith) ∙ ap (λ (i : ℕ). get_or (put_all out 0 cs) i 0) e
          ∙ put_all_lengths out 0 cs j (omega arith) b

  pub list_commands : commands_of (take (list_room (length cs)) (put_list out cs)) ≡ cs
  list_commands =
      ap (λ (m : ℕ). commands_from (written out cs) 0 (m / record_bytes)) number ∙ ap (λ (m : ℕ). commands_from (written out cs) 0 m) (commands_number (length cs))
      ∙ commands_agree (written out cs) (put_all out 0 cs) 0 (length cs) (λ i l h. written_command i (omega arith) (omega arith))
      ∙ put_all_commands out 0 cs (omega arith)
