-- Laws of the commands written: each is read back, and every other byte is as it was.
use Rattle.std.specs.Prelude.{ℕ, zero, suc, ◌+◌, ◌≤◌, ◌<◌, ◌≡◌, refl, List, [], ◌∷◌, length, get_or}
use Rattle.std.proofs.Common.{not-suc-le-zero, arith, sym, ◌∙◌, ap, ap₂}
use Rattle.std.proofs.lemmas.List.Edits.{sets}
use Rattle.std.proofs.Math.Seq.{length-sets}
use Rattle.matrix.specs.declared.Fields.{Fields}
use Rattle.matrix.specs.CommandList.{record_bytes, length_byte, command_place, fields_at, commands_from}
use Rattle.lists.specs.Forms.{fields_of}
use Rattle.writing.specs.Put.{put_command, put_all}
use Rattle.writing.specs.Stores.{get_or_sets_other, get_or_sets_same, six_stores}
use Rattle.writing.specs.Commands.{command_bytes}

-- ---- one command
pub put_command_sets : (out : List ℕ) (j : ℕ) (c : Fields) → put_command out j c ≡ sets out (command_place j) (command_bytes c)
unfolding put_command
put_command_sets out j c = six_stores out (command_place j) length_byte c.code c.i c.s c.o c.k

pub length_put_command : (out : List ℕ) (j : ℕ) (c : Fields) → length (put_command out j c) ≡ length out
length_put_command out j c = ap length (put_command_sets out j c) ∙ length-sets out (command_place j) (command_bytes c)

pub put_command_other : (out : List ℕ) (j : ℕ) (c : Fields) (i : ℕ) → (command_place j ≤ i → i < command_place j + record_bytes → ⊥)
    → get_or (put_command out j c) i 0 ≡ get_or out i 0
put_command_other out j c i h =
    ap (λ (l : List ℕ). get_or l i 0) (put_command_sets out j c) ∙ get_or_sets_other (command_bytes c) out (command_place j) i h

pub put_command_byte : (out : List ℕ) (j : ℕ) (c : Fields) (k : ℕ) → command_place j + record_bytes ≤ length out → k < record_bytes
    → get_or (put_command out j c) (command_place j + k) 0 ≡ get_or (command_bytes c) k 0
put_command_byte out j c k h b =
    ap (λ (l : List ℕ). get_or l (command_place j + k) 0) (put_command_sets out j c) ∙ get_or_sets_same (command_bytes c) out (command_place j) k h b

-- ---- one after another
pub length_put_all : (out : List ℕ) (j : ℕ) (cs : List Fields) → length (put_all out j cs) ≡ length out
unfolding put_all
length_put_all out j [] = refl
length_put_all out j (c ∷ cs) = length_put_all (put_command out j c) (suc j) cs ∙ length_put_command out j c

pub put_all_other : (out : List ℕ) (j : ℕ) (cs : List Fields) (i : ℕ) → (command_place j ≤ i → i < command_place (j + length cs) → ⊥)
    → get_or (put_all out j cs) i 0 ≡ get_or out i 0
unfolding put_all
put_all_other out j [] i h = refl
put_all_other out j (c ∷ cs) i h =
    put_all_other (put_command out j c) (suc j) cs i (λ p q. h (omega arith) (omega arith))
    ∙ put_command_other out j c i (λ p q. h (omega arith) (omega arith))

-- the bytes of the command at a place of the list
pub put_all_first : (out : List ℕ) (j : ℕ) (c : Fields) (cs : List Fields) (k : ℕ) → command_place j + record_bytes ≤ length out → k < record_bytes
    → get_or (put_all out j (c ∷ cs)) (command_place j + k) 0 ≡ get_or (command_bytes c) k 0
unfolding put_all
put_all_first out j c cs k h b =
    put_all_other (put_command out j c) (suc j) cs (command_place j + k) (λ p q. omega arith) ∙ put_command_byte out j c k h b

pub put_all_lengths : (out : List ℕ) (j : ℕ) (cs : List Fields) (k : ℕ) → command_place (j + length cs) ≤ length out → k < length cs
    → get_or (put_all out j cs) (command_place (j + k)) 0 ≡ length_byte
unfolding put_all
put_all_lengths out j [] k h b = absurd (not-suc-le-zero b)
put_all_lengths out j (c ∷ cs) zero h b =
    let e : command_place (j + zero) ≡ command_place j + 0 = omega arith in
    ap (λ (i : ℕ). get_or (put_all out j (c ∷ cs)) i 0) e ∙ put_all_first out j c cs 0 (omega arith) (omega arith)
put_all_lengths out j (c ∷ cs) (suc k) h b =
    let e : command_place (j + suc k) ≡ command_place (suc j + k) = omega arith in
    let q : length (put_command out j c) ≡ length out = length_put_command out j c in
    ap (λ (i : ℕ). get_or (put_all out j (c ∷ cs)) i 0) e ∙ put_all_lengths (put_command out j c) (suc j) cs k (omega arith) (omega arith)

pub put_all_commands : (out : List ℕ) (j : ℕ) (cs : List Fields) → command_place (j + length cs) ≤ length out
    → commands_from (put_all out j cs) j (length cs) ≡ cs
unfolding commands_from put_all
put_all_commands out j [] h = refl
put_all_commands out j (c ∷ cs) h =
    let e : length (put_command out j c) ≡ length out = length_put_command out j c in
    ap₂ (λ (d : Fields) (ds : List Fields). d ∷ ds) (sym first) (put_all_commands (put_command out j c) (suc j) cs (omega arith))
  where
    whole : List ℕ
    whole = put_all out j (c ∷ cs)

    byte : (k : ℕ) → k < record_bytes → get_or (command_bytes c) k 0 ≡ get_or whole (command_place j + k) 0
    byte k b = sym (put_all_first out j c cs k (omega arith) b)

    first : c ≡ fields_at whole (command_place j)
    first =
        fields_of whole (command_place j) (byte 1 (omega arith)) (byte 2 (omega arith)) (byte 3 (omega arith)) (byte 4 (omega arith)) (byte 5 (omega arith))
