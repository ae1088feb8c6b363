-- A step: the answer to a command and the state after it.
use Rattle.std.specs.Prelude.{ℕ, Bool, cond, ◌&&◌, ◌||◌, [], ◌∷◌, eqb}
use Rattle.matrix.specs.declared.Right.TheVariants.{Own, Control, Basic}
use Rattle.matrix.specs.declared.Act.{Act}
use Rattle.matrix.specs.declared.Act.TheVariants.{Transfer, Grant, Delete, CreateObject, DestroyObject, CreateSubject, DestroySubject}
use Rattle.matrix.specs.declared.Command.{Command}
use Rattle.matrix.specs.Answers.{Answer}
use Rattle.matrix.specs.Answers.{Accepted, Refused}
use Rattle.matrix.specs.Names.{is_subject, column_of}
use Rattle.matrix.specs.State.{State}
use Rattle.matrix.specs.Owners.{walk, links_of}
use Rattle.matrix.specs.Commands.{Raw, known, rule_of, fields_fit, decode}
use Rattle.matrix.specs.Tests.{test, first_failed, command_tests}
use Rattle.matrix.specs.Changes.{change}

-- the refusal of a decoded command, 8 to 14 or 19, or 0 if it is accepted
unfoldable pub refusal_of : State → Command → ℕ
refusal_of S c = first_failed (command_tests S c)

-- The links of the walk, which code 3 over a subject alone makes. They are answered where the command is accepted or refused by 13 (Manual 5.5).
abbrev pub walk_links : State → Command → Act → ℕ
walk_links S c (Transfer Own) = cond (is_subject c.o) (links_of (walk S c.s c.o)) 0
walk_links S c (Transfer Control) = 0
walk_links S c (Transfer (Basic k f)) = 0
walk_links S c (Grant y) = 0
walk_links S c (Delete y) = 0
walk_links S c CreateObject = 0
walk_links S c DestroyObject = 0
walk_links S c CreateSubject = 0
walk_links S c DestroySubject = 0

abbrev pub links_with : ℕ → State → Command → ℕ
links_with refusal S c = cond (eqb refusal 0 || eqb refusal 13) (walk_links S c c.act) 0

-- The refusal of a command as given, 6 to 14 or 19, or 0. `names` is whether its names are within bounds: on a record they are to be the
-- record's (Manual 7.2), in the safety question every name is (Manual 8.2).
unfoldable pub refusal : ℕ → Bool → State → Raw → ℕ
refusal basics names S c =
    first_failed (test 6 (known c.code) ∷
    test 7 (names && fields_fit basics (rule_of c.code c.k) c.s (column_of c.o) c.k) ∷
    test (refusal_of S (decode c)) (eqb (refusal_of S (decode c)) 0) ∷ [])

unfoldable pub links : ℕ → Bool → State → Raw → ℕ
links basics names S c = links_with (refusal basics names S c) S (decode c)

-- The state after a command: with its change where it is accepted, the same where it is refused (Manual 5.5).
unfoldable pub next : ℕ → Bool → State → Raw → State
next basics names S c = cond (eqb (refusal basics names S c) 0) (change S (decode c) (decode c).act) S

-- the answer that a refusal number (0: accepted) and the links make
abbrev pub answer : ℕ → ℕ → Answer
answer number followed = cond (eqb number 0) (Accepted followed) (Refused number followed)
