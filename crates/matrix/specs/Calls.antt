-- The answer of every public call, and the bytes after it, under limits of n and p (Manual 7, 8.6).
use Rattle.std.specs.Prelude.{ℕ, ◌+◌, Bool, cond, ◌&&◌, List, [], ◌∷◌, eqb, ltb}
use Rattle.matrix.specs.declared.Fields.{Fields}
use Rattle.matrix.specs.Answers.{Answer}
use Rattle.matrix.specs.Answers.{Refused}
use Rattle.matrix.specs.Answers.{Holding}
use Rattle.matrix.specs.Answers.{Yes, No}
use Rattle.matrix.specs.Answers.{Outcome}
use Rattle.matrix.specs.declared.Numbers.{Numbers}
use Rattle.matrix.specs.declared.Shape.{Shape}
use Rattle.matrix.specs.Names.{name_of}
use Rattle.matrix.specs.Numbers.{truth, numbers}
use Rattle.matrix.specs.Rights.{right_of}
use Rattle.matrix.specs.State.{State, held}
use Rattle.matrix.specs.Commands.{Raw}
use Rattle.matrix.specs.Tests.{test, first_failed}
use Rattle.matrix.specs.Step.{refusal, links, next, answer}
use Rattle.matrix.specs.Shape.{Limits, shape_of, bits_of, basics_of, columns}
use Rattle.matrix.specs.Reading.{state_of, content, bytes_of}
use Rattle.matrix.specs.Record.{record_refusal}
use Rattle.matrix.specs.CommandList.{well_formed, commands_of}

-- The validity call: yes where none of 1 to 5 applies. It is never refused.
unfoldable pub valid_answer : Limits → List ℕ → Bool
valid_answer most b = eqb (record_refusal most b) 0

-- the numbers of a question are within bounds: where they are not, it is refused by 7
abbrev pub question_fits : Shape → ℕ → ℕ → ℕ → Bool
question_fits f s o right = ltb s f.n && ltb o (columns f) && ltb right (bits_of f)

-- Whether a right is held: 1 to 5, then 7.
unfoldable pub held_refusal : Limits → List ℕ → ℕ → ℕ → ℕ → ℕ
held_refusal most b s o right = first_failed (test (record_refusal most b) (eqb (record_refusal most b) 0) ∷ test 7 (question_fits (shape_of b) s o right) ∷ [])

abbrev pub holds_on : List ℕ → ℕ → ℕ → ℕ → Bool
holds_on b s o right = held (state_of b) (right_of right) s (name_of (shape_of b).n o)

unfoldable pub held_answer : Limits → List ℕ → ℕ → ℕ → ℕ → Holding
held_answer most b s o right =
    cond (eqb (held_refusal most b s o right) 0)
    (cond (holds_on b s o right) Yes No)
    (Holding.Refused (held_refusal most b s o right))

-- the same in numbers
unfoldable pub held_result : Limits → List ℕ → ℕ → ℕ → ℕ → Numbers
held_result most b s o right = numbers (held_refusal most b s o right) (cond (eqb (held_refusal most b s o right) 0) (truth (holds_on b s o right)) 0)

-- A command given to a record of a shape: its column o is a subject's name below n, and from n on a plain object's (Manual 1.1).
abbrev pub raw_of : Shape → Fields → Raw
raw_of f c = record { code = c.code; i = c.i; s = c.s; o = name_of f.n c.o; k = c.k }

-- its names are the record's: else refusal 7
abbrev pub names_fit : Shape → Fields → Bool
names_fit f c = ltb c.i f.n && ltb c.s f.n && ltb c.o (columns f)

-- the refusal, 6 to 14 or 19, of a command on a state of a shape, or 0; the links that are answered with it; and the state after it
unfoldable pub refusal_on : Shape → State → Fields → ℕ
refusal_on f S c = refusal (basics_of f) (names_fit f c) S (raw_of f c)

unfoldable pub links_on : Shape → State → Fields → ℕ
links_on f S c = links (basics_of f) (names_fit f c) S (raw_of f c)

unfoldable pub next_on : Shape → State → Fields → State
next_on f S c = next (basics_of f) (names_fit f c) S (raw_of f c)

-- A command on a record: 1 to 5, then those of a command (Manual 7.3). Where it is refused the bytes stay as they are.
unfoldable pub command_answer : Limits → List ℕ → Fields → Answer
command_answer most b c =
    cond (eqb (record_refusal most b) 0)
    (answer (refusal_on (shape_of b) (state_of b) c) (links_on (shape_of b) (state_of b) c))
    (Refused (record_refusal most b) 0)

-- the same in numbers
unfoldable pub command_result : Limits → List ℕ → Fields → Numbers
command_result most b c =
    cond (eqb (record_refusal most b) 0)
    (numbers (refusal_on (shape_of b) (state_of b) c) (links_on (shape_of b) (state_of b) c))
    (numbers (record_refusal most b) 0)

-- the record after it: the same shape with the next state, or, where it is refused, the same bytes
unfoldable pub command_bytes : Limits → List ℕ → Fields → List ℕ
command_bytes most b c =
    cond (eqb (record_refusal most b) 0 && eqb (refusal_on (shape_of b) (state_of b) c) 0)
    (bytes_of (content (shape_of b) (next_on (shape_of b) (state_of b) c)))
    b

-- Commands in turn, up to the first that is refused: how many were accepted, the refusal (0 where there was none) and the state left
-- (Manual 6.2).
pub record Ran : Type 0 where
  pub accepted : ℕ
  pub refusal : ℕ
  pub state : State

unfoldable pub run_from : ℕ → Shape → State → List Fields → Ran
run_from accepted f S [] = record { accepted = accepted; refusal = 0; state = S }
run_from accepted f S (c ∷ cs) =
    cond (eqb (refusal_on f S c) 0)
    (run_from (accepted + 1) f (next_on f S c) cs)
    (record { accepted = accepted; refusal = refusal_on f S c; state = S })

-- A list run on a record: 1 to 5, then 16; where one of these refuses it, nothing is accepted. Then each command.
unfoldable pub run_refusal : Limits → List ℕ → List ℕ → ℕ
run_refusal most b l = first_failed (test (record_refusal most b) (eqb (record_refusal most b) 0) ∷ test 16 (well_formed l) ∷ [])

abbrev pub ran_on : List ℕ → List ℕ → Ran
ran_on b l = run_from 0 (shape_of b) (state_of b) (commands_of l)

unfoldable pub run_answer : Limits → List ℕ → List ℕ → Outcome
run_answer most b l =
    cond (eqb (run_refusal most b l) 0)
    (record { accepted = (ran_on b l).accepted; refusal = (ran_on b l).refusal })
    (record { accepted = 0; refusal = run_refusal most b l })

-- the same in numbers
unfoldable pub run_result : Limits → List ℕ → List ℕ → Numbers
run_result most b l =
    cond (eqb (run_refusal most b l) 0)
    (numbers (ran_on b l).refusal (ran_on b l).accepted)
    (numbers (run_refusal most b l) 0)

-- the record after it holds what the accepted commands made, also where a later one was refused
unfoldable pub run_bytes : Limits → List ℕ → List ℕ → List ℕ
run_bytes most b l = cond (eqb (run_refusal most b l) 0) (bytes_of (content (shape_of b) (ran_on b l).state)) b
