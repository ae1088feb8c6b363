-- Commands by their fields, and the end of a list, which gives s the right once v owns o.
use Rattle.std.specs.Prelude.{ℕ, Bool, true, false, cond, ◌||◌, List, [], ◌∷◌, ◌++◌, eqb}
use Rattle.matrix.specs.declared.Name.{Name}
use Rattle.matrix.specs.declared.Name.TheVariants.{Subject}
use Rattle.matrix.specs.declared.Form.{Form}
use Rattle.matrix.specs.declared.Form.TheVariants.{Starred}
use Rattle.matrix.specs.declared.Right.{Right}
use Rattle.matrix.specs.declared.Right.TheVariants.{Own, Control, Basic}
use Rattle.matrix.specs.declared.Fields.{Fields}
use Rattle.matrix.specs.Names.{column_of}

abbrev pub fields : ℕ → ℕ → ℕ → ℕ → ℕ → Fields
fields code i s o k = record { code = code; i = i; s = s; o = o; k = k }

-- v destroys subject w; v creates subject w; v creates a name of either kind
abbrev pub destroys : ℕ → ℕ → Fields
destroys v w = fields 13 v w 0 0

abbrev pub creates : ℕ → ℕ → Fields
creates v w = fields 12 v w 0 0

abbrev pub creates_name : ℕ → Name → Fields
creates_name v (Subject w) = creates v w
creates_name v (Name.Plain o) = fields 10 v 0 o 0

-- the code by which an owner gives a right over o: 3 own of a subject, 7 own of a plain object, 6 control, 4 or 5 a basic right
abbrev pub giving_code : Name → Right → ℕ
giving_code (Subject o) Own = 3
giving_code (Name.Plain o) Own = 7
giving_code (Subject o) Control = 6
giving_code (Name.Plain o) Control = 6
giving_code (Subject o) (Basic k Form.Plain) = 4
giving_code (Name.Plain o) (Basic k Form.Plain) = 4
giving_code (Subject o) (Basic k Starred) = 5
giving_code (Name.Plain o) (Basic k Starred) = 5

abbrev pub basic_number : Right → ℕ
basic_number Own = 0
basic_number Control = 0
basic_number (Basic k f) = k

-- the owner v of o gives s the right x over o
abbrev pub gives : ℕ → ℕ → Name → Right → Fields
gives v s o x = fields (giving_code o x) v s (column_of o) (basic_number x)

-- i, who has the starred right k over o, passes s the right k in a form
abbrev pub passes : ℕ → ℕ → Name → ℕ → Form → Fields
passes i s o k Form.Plain = fields 1 i s (column_of o) k
passes i s o k Starred = fields 2 i s (column_of o) k

-- own over a name makes the right held: every right but control
abbrev pub held_by_own : Right → Bool
held_by_own Own = true
held_by_own Control = false
held_by_own (Basic k f) = true

-- The end of a list, once v owns o: o is destroyed and created again where `again` says so, s is created where it is `absent`, and
-- v gives s the right.
abbrev pub finish : ℕ → ℕ → Name → Right → Bool → Bool → List Fields
finish v s o x absent again =
    cond again (destroys v (column_of o) ∷ creates v (column_of o) ∷ []) [] ++ (cond absent (creates v s ∷ []) [] ++ (gives v s o x ∷ []))

-- v destroys each subject of a list in turn
unfoldable pub destroys_all : ℕ → List ℕ → List Fields
destroys_all v [] = []
destroys_all v (w ∷ ws) = destroys v w ∷ destroys_all v ws

-- the subjects of a list up to the first that owns o
unfoldable pub until_owner : (ℕ → Name → Bool) → Name → List ℕ → List ℕ
until_owner owns o [] = []
until_owner owns o (w ∷ ws) = w ∷ cond (owns w o) [] (until_owner owns o ws)

unfoldable pub among : ℕ → List ℕ → Bool
among w [] = false
among w (v ∷ vs) = eqb w v || among w vs
