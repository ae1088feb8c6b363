-- The thirteen commands (Manual 5): the fields that each uses and what it does, and decoding.
use Rattle.std.specs.Prelude.{ℕ, ◌-◌, Bool, true, false, cond, ◌&&◌, ◌||◌, List, [], ◌∷◌, eqb, ltb, leb, get_or}
use Rattle.matrix.specs.declared.Name.{Name}
use Rattle.matrix.specs.declared.Form.TheVariants.{Plain, Starred}
use Rattle.matrix.specs.declared.Right.TheVariants.{Own, Control, Basic}
use Rattle.matrix.specs.declared.Act.{Act}
use Rattle.matrix.specs.declared.Act.TheVariants.{Transfer, Grant, Delete, CreateObject, DestroyObject, CreateSubject, DestroySubject}
use Rattle.matrix.specs.declared.Kind.{Kind}
use Rattle.matrix.specs.declared.Kind.TheVariants.{AnyName, SubjectName, PlainName}
use Rattle.matrix.specs.declared.Rule.{Rule}
use Rattle.matrix.specs.declared.Command.{Command}

-- A command before decoding: its five fields (Manual 5.1), with o as a name, which has a kind (Manual 8.2).
pub record Raw : Type 0 where
  pub code : ℕ
  pub i : ℕ
  pub s : ℕ
  pub o : Name
  pub k : ℕ

-- The kind that o has to be of: a subject for code 6, a plain object for 7, 10 and 11. This is the one table of kinds.
abbrev pub kind_of : Act → Kind
kind_of (Transfer y) = AnyName
kind_of (Grant Own) = PlainName
kind_of (Grant Control) = SubjectName
kind_of (Grant (Basic k f)) = AnyName
kind_of (Delete y) = AnyName
kind_of CreateObject = PlainName
kind_of DestroyObject = PlainName
kind_of CreateSubject = AnyName
kind_of DestroySubject = AnyName

abbrev rule : Bool → Bool → Bool → Act → Rule
rule s o k act = record { s = s; o = o; k = k; kind = kind_of act; act = act }

-- The table of Manual 5.2 from code 1 to code 13: whether a command uses s, o and k, and what it does. Each uses i besides.
abbrev pub rules : ℕ → List Rule
rules k =
    rule true true true (Transfer (Basic k Plain)) ∷
    rule true true true (Transfer (Basic k Starred)) ∷
    rule true true false (Transfer Own) ∷
    rule true true true (Grant (Basic k Plain)) ∷
    rule true true true (Grant (Basic k Starred)) ∷
    rule true true false (Grant Control) ∷
    rule true true false (Grant Own) ∷
    rule true true true (Delete (Basic k Plain)) ∷
    rule true true true (Delete (Basic k Starred)) ∷
    rule false true false CreateObject ∷
    rule false true false DestroyObject ∷
    rule true false false CreateSubject ∷
    rule true false false DestroySubject ∷ []

-- a code of the table; refusal 6 for any other
abbrev pub known : ℕ → Bool
known code = leb 1 code && leb code 13

-- the table's row of a code; of an unknown code, which refusal 6 turns down, some row
abbrev pub rule_of : ℕ → ℕ → Rule
rule_of code k = get_or (rules k) (code - 1) (rule true false false DestroySubject)

-- What refusal 7 asks of a command besides bounds on names (Manual 7.2): unused fields are 0, and k is the number of a basic right.
abbrev pub fields_fit : ℕ → Rule → ℕ → ℕ → ℕ → Bool
fields_fit basics r s o k = (r.s || eqb s 0) && (r.o || eqb o 0) && cond r.k (ltb k basics) (eqb k 0)

abbrev pub decode : Raw → Command
decode c = record { i = c.i; s = c.s; o = c.o; act = (rule_of c.code c.k).act }
