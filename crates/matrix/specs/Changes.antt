-- The change that an accepted command makes: the last column of the table in Manual 5.2.
use Rattle.std.specs.Prelude.{ℕ, suc, max, Bool, true, false, ◌&&◌, ◌||◌, eqb}
use Rattle.matrix.specs.declared.Name.{Name}
use Rattle.matrix.specs.declared.Name.TheVariants.{Subject}
use Rattle.matrix.specs.declared.Right.TheVariants.{Own, Control, Basic}
use Rattle.matrix.specs.declared.Act.{Act}
use Rattle.matrix.specs.declared.Act.TheVariants.{Transfer, Grant, Delete, CreateObject, DestroyObject, CreateSubject, DestroySubject}
use Rattle.matrix.specs.declared.Command.{Command}
use Rattle.matrix.specs.Names.{same_name}
use Rattle.matrix.specs.State.{State, put, clear}

-- the same cells, with room for subject s
abbrev pub admit : ℕ → State → State
admit s S = record { top = max S.top (suc s); owns = S.owns; controls = S.controls; basic = S.basic }

-- whatever s owns, i owns too
abbrev pub inherit : ℕ → ℕ → State → State
inherit i s S = record { top = S.top; owns = λ w x. S.owns w x || eqb w i && S.owns s x; controls = S.controls; basic = S.basic }

-- the cells of a column; the cells of row and column s
abbrev pub in_column : Name → ℕ → Name → Bool
in_column c w x = same_name x c

abbrev pub in_cross : ℕ → ℕ → Name → Bool
in_cross s w x = same_name x (Subject s) || eqb w s

-- Code 3: i loses own before s gets it, so that nothing changes where s = i (Manual 5.4).
abbrev pub change : State → Command → Act → State
change S c (Transfer Own) = put Own c.s c.o true (put Own c.i c.o false S)
change S c (Transfer Control) = S
change S c (Transfer (Basic k f)) = put (Basic k f) c.s c.o true S
change S c (Grant y) = put y c.s c.o true S
change S c (Delete y) = put y c.s c.o false S
change S c CreateObject = put Own c.i c.o true S
change S c DestroyObject = clear (in_column c.o) S
change S c CreateSubject = put Control c.s (Subject c.s) true (put Own c.i (Subject c.s) true (admit c.s S))
change S c DestroySubject = clear (in_cross c.s) (inherit c.i c.s S)
