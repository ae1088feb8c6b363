-- A list of commands as it is written at a buffer's start, in the form of Manual 6.1.
use Rattle.std.specs.Prelude.{ℕ, suc, ◌+◌, ◌*◌, ◌/◌, ◌≤◌, ◌<◌, List, [], ◌∷◌, length, set}
use Rattle.matrix.specs.declared.Fields.{Fields}
use Rattle.matrix.specs.Bytes.{set_number}
use Rattle.matrix.specs.CommandList.{list_head, record_bytes, most_list_bytes, length_byte, command_place}

-- the most commands whose bytes are no more than a list may have
abbrev pub most_commands : ℕ
most_commands = most_list_bytes / record_bytes

-- the command numbered j becomes c
unfoldable pub put_command : List ℕ → ℕ → Fields → List ℕ
put_command out j c =
    set (set (set (set (set (set out (command_place j) length_byte) (command_place j + 1) c.code) (command_place j + 2) c.i) (command_place j + 3) c.s) (command_place j + 4) c.o) (command_place j + 5) c.k

-- the commands from the one numbered j on become cs
unfoldable pub put_all : List ℕ → ℕ → List Fields → List ℕ
put_all out j [] = out
put_all out j (c ∷ cs) = put_all (put_command out j c) (suc j) cs

-- the head of a list of so many commands
unfoldable pub put_head : List ℕ → ℕ → List ℕ
put_head out count = set_number (set out 0 1) 1 4 (record_bytes * count)

unfoldable pub put_list : List ℕ → List Fields → List ℕ
put_list out cs = put_head (put_all out 0 cs) (length cs)

-- each field of a command is a byte
pub record ByteFields (c : Fields) : Type 0 where
  pub code : c.code < 256
  pub i : c.i < 256
  pub s : c.s < 256
  pub o : c.o < 256
  pub k : c.k < 256

-- What writing the command numbered j asks of the caller, and what writing the head does.
pub record Room (out : List ℕ) (j : ℕ) (c : Fields) : Type 0 where
  pub fits : command_place j + record_bytes ≤ length out
  pub bytes : ByteFields c

pub record HeadRoom (out : List ℕ) (count : ℕ) : Type 0 where
  pub fits : list_head ≤ length out
  pub few : count ≤ most_commands
