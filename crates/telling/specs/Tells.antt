-- Parts of a list written one after another from a command's number on.
use Rattle.std.specs.Prelude.{ℕ, ◌+◌, ◌≤◌, ◌≡◌, refl, Bool, true, false, cond, List, [], ◌∷◌, ◌++◌, length}
use Rattle.std.proofs.Common.{add-zero, arith, sym, ◌∙◌, ap, ap₂, length-append}
use Rattle.matrix.specs.declared.Fields.{Fields}
use Rattle.matrix.specs.CommandList.{command_place}
use Rattle.writing.specs.Put.{put_command, put_all}
use Rattle.writing.proofs.Commands.{length_put_all}
use Rattle.writing.proofs.Laws.{put_all_append}

-- the buffer out became out' by writing the commands cs from number j on, and r is the number of the next one
pub record Tells (out out' : List ℕ) (j : ℕ) (cs : List Fields) (r : ℕ) : Type 0 where
  pub bytes : out' ≡ put_all out j cs
  pub next : r ≡ j + length cs

-- the buffer has room for m commands from number j on
pub record Fits (out : List ℕ) (j m : ℕ) : Type 0 where
  pub fits : command_place (j + m) ≤ length out

-- no command, one command, and one part after another
pub tells_none : (out : List ℕ) (j : ℕ) → Tells out out j [] j
unfolding put_all
tells_none out j = record { bytes = refl; next = sym (add-zero j) }

pub tells_one : {out out' : List ℕ} {j : ℕ} {c : Fields} → out' ≡ put_command out j c → Tells out out' j (c ∷ []) (j + 1)
unfolding put_all
tells_one h = record { bytes = h; next = refl }

pub tells_then : {out mid out' : List ℕ} {j i r : ℕ} {cs ds : List Fields} → Tells out mid j cs i → Tells mid out' i ds r
    → Tells out out' j (cs ++ ds) r
tells_then {out} {mid} {j = j} {i} {cs = cs} {ds} a b =
    record {
      bytes = b.bytes ∙ ap₂ (λ (l : List ℕ) (k : ℕ). put_all l k ds) a.bytes a.next ∙ sym (put_all_append out j cs ds);
      next = (let e : length (cs ++ ds) ≡ length cs + length ds = length-append cs ds in omega (arith, a.next, b.next));
    }

-- the commands said in another way
pub tells_as : {out out' : List ℕ} {j r : ℕ} {cs ds : List Fields} → cs ≡ ds → Tells out out' j cs r → Tells out out' j ds r
tells_as {out} {j = j} e a =
    record { bytes = a.bytes ∙ ap (λ (l : List Fields). put_all out j l) e; next = a.next ∙ ap (λ (l : List Fields). j + length l) e }

-- a part that is written where a test holds, and is not
pub tells_skipped : {t : Bool} (out : List ℕ) (j : ℕ) (cs : List Fields) → t ≡ false → Tells out out j (cond t cs []) j
tells_skipped out j cs e = rw e (tells_none out j)

-- a command, and a part after it that is left out where a test holds
pub tells_only : {out out' : List ℕ} {j r : ℕ} {c : Fields} {t : Bool} (cs : List Fields) → t ≡ true → Tells out out' j (c ∷ []) r
    → Tells out out' j (c ∷ cond t [] cs) r
tells_only cs e a = rw e a

pub tells_more : {out mid out' : List ℕ} {j i r : ℕ} {c : Fields} {cs : List Fields} {t : Bool} → t ≡ false → Tells out mid j (c ∷ []) i
    → Tells mid out' i cs r → Tells out out' j (c ∷ cond t [] cs) r
tells_more e a b = rw e (tells_then a b)

-- writing keeps the buffer's length, so the room for the parts still to come stays
pub tells_length : {out out' : List ℕ} {j r : ℕ} {cs : List Fields} → Tells out out' j cs r → length out' ≡ length out
tells_length {out} {j = j} {cs = cs} a = ap length a.bytes ∙ length_put_all out j cs
