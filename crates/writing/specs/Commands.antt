-- Laws of the commands written: each is read back, and every other byte is as it was.
use Rattle.std.specs.Prelude.{ℕ, zero, suc, ◌+◌, ◌≤◌, ◌<◌, ◌≡◌, refl, List, [], ◌∷◌, get_or}
use Rattle.std.proofs.Common.{arith, ap₂}
use Rattle.matrix.specs.declared.Fields.{Fields}
use Rattle.matrix.specs.CommandList.{record_bytes, length_byte, command_place, fields_at, commands_from}
use Rattle.lists.specs.Forms.{fields_of}

-- the six bytes of a command
abbrev pub command_bytes : Fields → List ℕ
command_bytes c = length_byte ∷ c.code ∷ c.i ∷ c.s ∷ c.o ∷ c.k ∷ []

-- commands of lists that agree at their places
pub commands_agree : (a b : List ℕ) (j m : ℕ) → ((i : ℕ) → command_place j ≤ i → i < command_place (j + m) → get_or a i 0 ≡ get_or b i 0)
    → commands_from a j m ≡ commands_from b j m
unfolding commands_from
commands_agree a b j zero h = refl
commands_agree a b j (suc m) h =
    ap₂ (λ (d : Fields) (ds : List Fields). d ∷ ds) first (commands_agree a b (suc j) m (λ i p q. h i (omega arith) (omega arith)))
  where
    byte : (k : ℕ) → k < record_bytes → get_or a (command_place j + k) 0 ≡ get_or b (command_place j + k) 0
    byte k l = h (command_place j + k) (omega arith) (omega arith)

    first : fields_at a (command_place j) ≡ fields_at b (command_place j)
    first =
        fields_of b (command_place j) (byte 1 (omega arith)) (byte 2 (omega arith)) (byte 3 (omega arith)) (byte 4 (omega arith)) (byte 5 (omega arith))
