-- When a command is turned down: the tests on a decoded command, in this order: 8, 9, 10, 11, 12, 19, 13, 14 (Manual 7.3).
use Rattle.std.specs.Prelude.{ℕ, Bool, true, false, cond, not, ◌&&◌, ◌||◌, List, [], ◌∷◌}
use Rattle.matrix.specs.declared.Name.{Name}
use Rattle.matrix.specs.declared.Name.TheVariants.{Subject}
use Rattle.matrix.specs.declared.Form.TheVariants.{Starred}
use Rattle.matrix.specs.declared.Right.TheVariants.{Own, Control, Basic}
use Rattle.matrix.specs.declared.Act.{Act}
use Rattle.matrix.specs.declared.Act.TheVariants.{Transfer, Grant, Delete, CreateObject, DestroyObject, CreateSubject, DestroySubject}
use Rattle.matrix.specs.declared.Kind.{Kind}
use Rattle.matrix.specs.declared.Kind.TheVariants.{AnyName, SubjectName, PlainName}
use Rattle.matrix.specs.declared.Command.{Command}
use Rattle.matrix.specs.Bounded.{any}
use Rattle.matrix.specs.Names.{is_subject, same_name}
use Rattle.matrix.specs.State.{State, has, exists, exists_name}
use Rattle.matrix.specs.Owners.{walk, meets}
use Rattle.matrix.specs.Commands.{kind_of}

-- A test: the number of the refusal, and whether the test is passed.
pub record Test : Type 0 where
  pub number : ℕ
  pub passed : Bool

abbrev pub test : ℕ → Bool → Test
test number passed = record { number = number; passed = passed }

-- The first test in the list that is not passed gives its number; 0 where all are passed (Manual 7.3).
unfoldable pub first_failed : List Test → ℕ
first_failed [] = 0
first_failed (t ∷ ts) = cond t.passed (first_failed ts) t.number

-- 9: o is of the kind that the command needs
abbrev pub kind_fits : Kind → Name → Bool
kind_fits AnyName x = true
kind_fits SubjectName x = is_subject x
kind_fits PlainName x = not (is_subject x)

-- 10: s and o exist, where the command uses them and does not create them (Manual 5.3)
abbrev pub present : State → Command → Act → Bool
present S c (Transfer y) = exists S c.s && exists_name S c.o
present S c (Grant y) = exists S c.s && exists_name S c.o
present S c (Delete y) = exists S c.s && exists_name S c.o
present S c CreateObject = true
present S c DestroyObject = exists_name S c.o
present S c CreateSubject = true
present S c DestroySubject = exists S c.s

-- 11: what the command creates is absent
abbrev pub free : State → Command → Act → Bool
free S c (Transfer y) = true
free S c (Grant y) = true
free S c (Delete y) = true
free S c CreateObject = not (exists_name S c.o)
free S c DestroyObject = true
free S c CreateSubject = not (exists S c.s)
free S c DestroySubject = true

-- 12: i has the right that the table asks for (Manual 5.2). No code decodes to a transfer of control or a delete of own or control: no
-- right allows those.
abbrev pub permitted : State → Command → Act → Bool
permitted S c (Transfer Own) = S.owns c.i c.o
permitted S c (Transfer Control) = false
permitted S c (Transfer (Basic k f)) = S.basic k Starred c.i c.o
permitted S c (Grant y) = S.owns c.i c.o
permitted S c (Delete Own) = false
permitted S c (Delete Control) = false
permitted S c (Delete (Basic k f)) = S.owns c.i c.o || S.controls c.i (Subject c.s)
permitted S c CreateObject = true
permitted S c DestroyObject = S.owns c.i c.o
permitted S c CreateSubject = true
permitted S c DestroySubject = S.owns c.i (Subject c.s)

-- 19: the bit that a delete names is set. Only this bit counts: neither own nor the other form of the right does (Manual 5.4).
abbrev pub deletable : State → Command → Act → Bool
deletable S c (Transfer y) = true
deletable S c (Grant y) = true
deletable S c (Delete y) = has S y c.s c.o
deletable S c CreateObject = true
deletable S c DestroyObject = true
deletable S c CreateSubject = true
deletable S c DestroySubject = true

-- 13: the walk of code 3 does not meet o. It starts at s itself, and is made where o is a subject: over a plain object there is none (Manual 5.4).
abbrev pub apart : State → Command → Act → Bool
apart S c (Transfer Own) = not (is_subject c.o && meets (walk S c.s c.o))
apart S c (Transfer Control) = true
apart S c (Transfer (Basic k f)) = true
apart S c (Grant y) = true
apart S c (Delete y) = true
apart S c CreateObject = true
apart S c DestroyObject = true
apart S c CreateSubject = true
apart S c DestroySubject = true

-- some subject other than x itself controls x
abbrev pub other_controller : State → Name → Bool
other_controller S x = any S.top (λ w. S.controls w x && not (same_name (Subject w) x))

-- 14: for code 6, no subject other than o controls o (Manual 5.4)
abbrev pub uncontrolled : State → Command → Act → Bool
uncontrolled S c (Transfer y) = true
uncontrolled S c (Grant Own) = true
uncontrolled S c (Grant Control) = not (other_controller S c.o)
uncontrolled S c (Grant (Basic k f)) = true
uncontrolled S c (Delete y) = true
uncontrolled S c CreateObject = true
uncontrolled S c DestroyObject = true
uncontrolled S c CreateSubject = true
uncontrolled S c DestroySubject = true

abbrev pub command_tests : State → Command → List Test
command_tests S c =
    test 8 (exists S c.i) ∷
    test 9 (kind_fits (kind_of c.act) c.o) ∷
    test 10 (present S c c.act) ∷
    test 11 (free S c c.act) ∷
    test 12 (permitted S c c.act) ∷
    test 19 (deletable S c c.act) ∷
    test 13 (apart S c c.act) ∷
    test 14 (uncontrolled S c c.act) ∷ []
