-- A list of commands as bytes (Manual 6.1): a head of version and L, and six bytes for each command, the first of them 05.
use Rattle.std.specs.Prelude.{ℕ, zero, suc, ◌+◌, ◌*◌, ◌/◌, ◌%◌, Bool, ◌&&◌, List, [], ◌∷◌, eqb, leb, length, get_or}
use Rattle.matrix.specs.declared.Fields.{Fields}
use Rattle.matrix.specs.Bounded.{all}
use Rattle.matrix.specs.Bytes.{number_at}

-- the bytes of a list's head, of one command in a list, and the most that may follow the head
abbrev pub list_head : ℕ
list_head = 5

abbrev pub record_bytes : ℕ
record_bytes = 6

abbrev pub most_list_bytes : ℕ
most_list_bytes = 60000

-- a command's length byte: the number of bytes that follow it
abbrev pub length_byte : ℕ
length_byte = 5

-- the number of commands that the list's L says, and the place of the j-th
abbrev pub commands_in : List ℕ → ℕ
commands_in l = number_at l 1 4 / record_bytes

abbrev pub command_place : ℕ → ℕ
command_place j = list_head + record_bytes * j

-- The list has the right form; refusal 16 where this fails (Manual 7.1).
unfoldable pub well_formed : List ℕ → Bool
well_formed l =
    leb list_head (length l) && eqb (get_or l 0 0) 1 && eqb (list_head + number_at l 1 4) (length l) && leb (number_at l 1 4) most_list_bytes
    && eqb (number_at l 1 4 % record_bytes) 0 && all (commands_in l) (λ j. eqb (get_or l (command_place j) 0) length_byte)

abbrev pub fields_at : List ℕ → ℕ → Fields
fields_at l at =
    record { code = get_or l (at + 1) 0; i = get_or l (at + 2) 0; s = get_or l (at + 3) 0; o = get_or l (at + 4) 0; k = get_or l (at + 5) 0 }

-- m commands from the one numbered j on
unfoldable pub commands_from : List ℕ → ℕ → ℕ → List Fields
commands_from l j zero = []
commands_from l j (suc m) = fields_at l (command_place j) ∷ commands_from l (suc j) m

abbrev pub commands_of : List ℕ → List Fields
commands_of l = commands_from l 0 (commands_in l)
