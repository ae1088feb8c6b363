-- The sheet of the thirteen commands (Manual 5): of each code, when it is accepted and what it makes of the state S. Its fields are i, s, o and
-- k; `basics` is the number of basic rights. `names` is whether i, s and o are within bounds: on a record, whether i < n, s < n and o < n + p
-- (`names_fit`); in the lists of a safety question it is true.
use Rattle.std.specs.Prelude.{ℕ, ◌≡◌, Bool, true, false, cond, not, ◌&&◌, ◌||◌, [], ◌∷◌, eqb, ltb}
use Rattle.matrix.specs.declared.Name.{Name}
use Rattle.matrix.specs.declared.Name.TheVariants.{Subject}
use Rattle.matrix.specs.declared.Form.TheVariants.{Plain, Starred}
use Rattle.matrix.specs.declared.Right.TheVariants.{Own, Control, Basic}
use Rattle.matrix.specs.Names.{is_subject, column_of}
use Rattle.matrix.specs.State.{State, exists, exists_name, put, clear}
use Rattle.matrix.specs.Owners.{walk, meets, links_of}
use Rattle.matrix.specs.Valid.{Valid}
use Rattle.matrix.specs.Commands.{known}
use Rattle.matrix.specs.Tests.{other_controller}
use Rattle.matrix.specs.Changes.{admit, inherit, in_column, in_cross}
use Rattle.matrix.specs.Step.{refusal, next}
use Rattle.demands.specs.Row.{Row, raw}

pub record Sheet (basics : ℕ) (names : Bool) (S : State) (i s : ℕ) (o : Name) (k : ℕ) : Type 0 where
  -- 1, 2: i, who has the starred right k over o, transfers it to s, plain or starred
  pub transfer_plain : Row basics names S (raw 1 i s o k)
      (names ∷ ltb k basics ∷ exists S i ∷ exists S s ∷ exists_name S o ∷ S.basic k Starred i o ∷ [])
      (put (Basic k Plain) s o true S) 0
  pub transfer_starred : Row basics names S (raw 2 i s o k)
      (names ∷ ltb k basics ∷ exists S i ∷ exists S s ∷ exists_name S o ∷ S.basic k Starred i o ∷ [])
      (put (Basic k Starred) s o true S) 0
  -- 3: i, who owns o, hands own to s. Where o is a subject, the walk from s does not meet it; over a plain object there is no walk
  pub transfer_own : Row basics names S (raw 3 i s o k)
      (names ∷ eqb k 0 ∷ exists S i ∷ exists S s ∷ exists_name S o ∷ S.owns i o ∷ not (is_subject o && meets (walk S s o)) ∷ [])
      (put Own s o true (put Own i o false S)) (cond (is_subject o) (links_of (walk S s o)) 0)
  -- .. and to itself: nothing changes
  pub transfer_to_itself : refusal basics names S (raw 3 i i o k) ≡ 0 → next basics names S (raw 3 i i o k) ≡ S
  -- .. in a valid state no name vanishes by it: the last owner of a plain object leaves s as its owner
  pub transfer_lasts : Valid S → (x : Name) → exists_name S x ≡ true → exists_name (next basics names S (raw 3 i s o k)) x ≡ true
  -- 4, 5: i, who owns o, grants right k over o to s, plain or starred
  pub grant_plain : Row basics names S (raw 4 i s o k)
      (names ∷ ltb k basics ∷ exists S i ∷ exists S s ∷ exists_name S o ∷ S.owns i o ∷ [])
      (put (Basic k Plain) s o true S) 0
  pub grant_starred : Row basics names S (raw 5 i s o k)
      (names ∷ ltb k basics ∷ exists S i ∷ exists S s ∷ exists_name S o ∷ S.owns i o ∷ [])
      (put (Basic k Starred) s o true S) 0
  -- 6: i, who owns the subject o, makes s control it, where nobody but o does
  pub grant_control : Row basics names S (raw 6 i s o k)
      (names ∷ eqb k 0 ∷ exists S i ∷ is_subject o ∷ exists S s ∷ exists_name S o ∷ S.owns i o ∷ not (other_controller S o) ∷ [])
      (put Control s o true S) 0
  -- 7: i, who owns the plain object o, makes s own it too
  pub grant_own : Row basics names S (raw 7 i s o k)
      (names ∷ eqb k 0 ∷ exists S i ∷ not (is_subject o) ∷ exists S s ∷ exists_name S o ∷ S.owns i o ∷ [])
      (put Own s o true S) 0
  -- 8, 9: i, who owns o or controls s, clears one bit of s over o, which is set
  pub delete_plain : Row basics names S (raw 8 i s o k)
      (names ∷ ltb k basics ∷ exists S i ∷ exists S s ∷ exists_name S o ∷ (S.owns i o || S.controls i (Subject s)) ∷ S.basic k Plain s o ∷ [])
      (put (Basic k Plain) s o false S) 0
  pub delete_starred : Row basics names S (raw 9 i s o k)
      (names ∷ ltb k basics ∷ exists S i ∷ exists S s ∷ exists_name S o ∷ (S.owns i o || S.controls i (Subject s)) ∷ S.basic k Starred s o ∷ [])
      (put (Basic k Starred) s o false S) 0
  -- 10: i creates the plain object o, which is absent, and owns it
  pub create_object : Row basics names S (raw 10 i s o k)
      (names ∷ eqb s 0 ∷ eqb k 0 ∷ exists S i ∷ not (is_subject o) ∷ not (exists_name S o) ∷ [])
      (put Own i o true S) 0
  -- 11: i, who owns the plain object o, destroys it: its column is cleared
  pub destroy_object : Row basics names S (raw 11 i s o k)
      (names ∷ eqb s 0 ∷ eqb k 0 ∷ exists S i ∷ not (is_subject o) ∷ exists_name S o ∷ S.owns i o ∷ [])
      (clear (in_column o) S) 0
  -- 12: i creates subject s, which is absent: i owns it and it controls itself
  pub create_subject : Row basics names S (raw 12 i s o k)
      (names ∷ eqb (column_of o) 0 ∷ eqb k 0 ∷ exists S i ∷ not (exists S s) ∷ [])
      (put Control s (Subject s) true (put Own i (Subject s) true (admit s S))) 0
  -- 13: i, who owns subject s, destroys it: i gains own over all that s owns, and row and column s are cleared
  pub destroy_subject : Row basics names S (raw 13 i s o k)
      (names ∷ eqb (column_of o) 0 ∷ eqb k 0 ∷ exists S i ∷ exists S s ∷ S.owns i (Subject s) ∷ [])
      (clear (in_cross s) (inherit i s S)) 0
  -- every other code is refused by 6
  pub others : (code : ℕ) → known code ≡ false → refusal basics names S (raw code i s o k) ≡ 6
  -- a refused command changes nothing
  pub refused : (code : ℕ) → (refusal basics names S (raw code i s o k) ≡ 0 → ⊥) → next basics names S (raw code i s o k) ≡ S
