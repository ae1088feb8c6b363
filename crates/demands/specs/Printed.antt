-- The conditions of the refusals as the manual prints them (Manual 7), each with its number, and the conditions of each call in their order.
use Rattle.std.specs.Prelude.{ℕ, ◌+◌, ◌*◌, ◌<◌, ◌≡◌, ◌⊎◌, Bool, true, false, cond, not, ◌&&◌, ◌||◌, List, [], ◌∷◌, ◌++◌, eqb, ltb, length}
use Rattle.matrix.specs.declared.Name.{Name}
use Rattle.matrix.specs.declared.Name.TheVariants.{Subject}
use Rattle.matrix.specs.declared.Form.{Form}
use Rattle.matrix.specs.declared.Form.TheVariants.{Plain, Starred}
use Rattle.matrix.specs.declared.Fields.{Fields}
use Rattle.matrix.specs.Names.{is_subject, name_of}
use Rattle.matrix.specs.State.{State, exists, exists_name}
use Rattle.matrix.specs.Owners.{walk, meets}
use Rattle.matrix.specs.Valid.{Valid}
use Rattle.matrix.specs.Commands.{known}
use Rattle.matrix.specs.Tests.{other_controller}
use Rattle.matrix.specs.declared.Shape.{Shape}
use Rattle.matrix.specs.Shape.{shape_of, header_bytes, known_version, sized, basics_of}
use Rattle.matrix.specs.Reading.{state_of}
use Rattle.matrix.specs.CommandList.{well_formed}
use Rattle.matrix.specs.Calls.{question_fits, names_fit}
use Rattle.question.specs.Asked.{trust_fits, list_room}
use Rattle.demands.specs.First.{Condition, condition}

-- 3: n is 0 or above the most subject names, or p is above the most plain names
abbrev pub OutOfRange : Shape → Type 0
OutOfRange f = (f.n ≡ 0) ⊎ (40 < f.n) ⊎ (120 < f.p)

-- 1 to 5: the record is too short; its version is unknown; n or p is out of range; L or the length is wrong; the matrix is not valid
abbrev pub record_conditions : List ℕ → List Condition
record_conditions b =
    condition 1 (length b < header_bytes) ∷
    condition 2 (known_version (shape_of b).version ≡ false) ∷
    condition 3 (OutOfRange (shape_of b)) ∷
    condition 4 (sized b ≡ false) ∷
    condition 5 (Valid (state_of b) → ⊥) ∷ []

-- a code is one of a list
abbrev pub one_of : ℕ → List ℕ → Bool
one_of code [] = false
one_of code (c ∷ cs) = eqb code c || one_of code cs

-- the codes that use s, o and k
abbrev pub uses_s : ℕ → Bool
uses_s code = not (one_of code (10 ∷ 11 ∷ []))

abbrev pub uses_o : ℕ → Bool
uses_o code = not (one_of code (12 ∷ 13 ∷ []))

abbrev pub uses_k : ℕ → Bool
uses_k code = one_of code (1 ∷ 2 ∷ 4 ∷ 5 ∷ 8 ∷ 9 ∷ [])

-- 7 fails these: a field that is not used is 0, and k is a basic right's number where it is used
abbrev pub fields_right : ℕ → ℕ → ℕ → ℕ → ℕ → Bool
fields_right basics code s o k = (uses_s code || eqb s 0) && (uses_o code || eqb o 0) && cond (uses_k code) (ltb k basics) (eqb k 0)

-- The conditions 9 to 14 and 19 by the code. 9: o is of the wrong kind
abbrev pub kind_wrong : ℕ → Name → Bool
kind_wrong code o = cond (eqb code 6) (not (is_subject o)) (cond (one_of code (7 ∷ 10 ∷ 11 ∷ [])) (is_subject o) false)

-- 10: s or o is absent where it is needed
abbrev pub missing : State → ℕ → ℕ → Name → Bool
missing S code s o =
    cond (one_of code (1 ∷ 2 ∷ 3 ∷ 4 ∷ 5 ∷ 6 ∷ 7 ∷ 8 ∷ 9 ∷ [])) (not (exists S s && exists_name S o))
    (cond (eqb code 11) (not (exists_name S o))
    (cond (eqb code 13) (not (exists S s)) false))

-- 11: the name to create exists
abbrev pub taken : State → ℕ → ℕ → Name → Bool
taken S code s o = cond (eqb code 10) (exists_name S o) (cond (eqb code 12) (exists S s) false)

-- 12: i lacks the right that is needed
abbrev pub unentitled : State → ℕ → ℕ → ℕ → Name → ℕ → Bool
unentitled S code i s o k =
    cond (one_of code (1 ∷ 2 ∷ [])) (not (S.basic k Starred i o))
    (cond (one_of code (3 ∷ 4 ∷ 5 ∷ 6 ∷ 7 ∷ 11 ∷ [])) (not (S.owns i o))
    (cond (one_of code (8 ∷ 9 ∷ [])) (not (S.owns i o || S.controls i (Subject s)))
    (cond (eqb code 13) (not (S.owns i (Subject s))) false)))

-- 19: the bit that is to be cleared is not set
abbrev pub unset : State → ℕ → ℕ → Name → ℕ → Bool
unset S code s o k = cond (eqb code 8) (not (S.basic k Plain s o)) (cond (eqb code 9) (not (S.basic k Starred s o)) false)

-- 13: o is a subject, and the walk from s meets it
abbrev pub walk_meets : State → ℕ → ℕ → Name → Bool
walk_meets S code s o = cond (eqb code 3) (is_subject o && meets (walk S s o)) false

-- 14: o has another controller
abbrev pub controlled : State → ℕ → Name → Bool
controlled S code o = cond (eqb code 6) (other_controller S o) false

-- 6 to 12, 19, 13 and 14, on a state of a shape
abbrev pub command_conditions : Shape → State → Fields → List Condition
command_conditions f S c =
    condition 6 (known c.code ≡ false) ∷
    condition 7 ((names_fit f c && fields_right (basics_of f) c.code c.s c.o c.k) ≡ false) ∷
    condition 8 (exists S c.i ≡ false) ∷
    condition 9 (kind_wrong c.code (name_of f.n c.o) ≡ true) ∷
    condition 10 (missing S c.code c.s (name_of f.n c.o) ≡ true) ∷
    condition 11 (taken S c.code c.s (name_of f.n c.o) ≡ true) ∷
    condition 12 (unentitled S c.code c.i c.s (name_of f.n c.o) c.k ≡ true) ∷
    condition 19 (unset S c.code c.s (name_of f.n c.o) c.k ≡ true) ∷
    condition 13 (walk_meets S c.code c.s (name_of f.n c.o) ≡ true) ∷
    condition 14 (controlled S c.code (name_of f.n c.o) ≡ true) ∷ []

-- a held question; a command; a list run, before its first command; a safety question with a buffer of so many bytes
abbrev pub held_conditions : List ℕ → ℕ → ℕ → ℕ → List Condition
held_conditions b s o right = record_conditions b ++ (condition 7 (question_fits (shape_of b) s o right ≡ false) ∷ [])

abbrev pub given_conditions : List ℕ → Fields → List Condition
given_conditions b c = record_conditions b ++ command_conditions (shape_of b) (state_of b) c

abbrev pub run_conditions : List ℕ → List ℕ → List Condition
run_conditions b l = record_conditions b ++ (condition 16 (well_formed l ≡ false) ∷ [])

abbrev pub safety_conditions : List ℕ → ℕ → ℕ → ℕ → ℕ → ℕ → List Condition
safety_conditions b mask s o right room =
    record_conditions b
    ++ (condition 7 ((question_fits (shape_of b) s o right && trust_fits (shape_of b) mask) ≡ false) ∷
    condition 15 (room < list_room ((shape_of b).n + 2)) ∷ [])

-- the question after which command a right is first held, with a copy of so many bytes
abbrev pub first_held_conditions : List ℕ → List ℕ → ℕ → ℕ → ℕ → ℕ → List Condition
first_held_conditions b l s o right room =
    record_conditions b
    ++ (condition 7 (question_fits (shape_of b) s o right ≡ false) ∷
    condition 15 (room < length b) ∷
    condition 16 (well_formed l ≡ false) ∷ [])

-- 18: in the cell of some row and column a basic right above 6 is set, plain or starred
abbrev pub HighRight : Shape → State → Type 0
HighRight f S =
    (w : ℕ) × (c : ℕ) × (k : ℕ) × (form : Form) × (w < f.n) × (c < f.n + f.p) × (6 < k) × (S.basic k form w (name_of f.n c) ≡ true)

-- the bytes of a record with n and p of a shape, in which a cell has so many
abbrev pub record_bytes : ℕ → Shape → ℕ
record_bytes width f = 7 + width * (f.n * (f.n + f.p))

-- a conversion with an output of so many bytes: to version 1, and there 18 stands before 15; to version 2
abbrev pub version1_conditions : List ℕ → ℕ → List Condition
version1_conditions b room =
    record_conditions b ++ (condition 18 (HighRight (shape_of b) (state_of b)) ∷ condition 15 (room < record_bytes 2 (shape_of b)) ∷ [])

abbrev pub version2_conditions : List ℕ → ℕ → List Condition
version2_conditions b room = record_conditions b ++ (condition 15 (room < record_bytes 4 (shape_of b)) ∷ [])
