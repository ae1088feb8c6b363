-- A command on a record stays within the record: its names, its rights and its `top`.
use Rattle.std.specs.Prelude.{ℕ, ◌+◌, ◌≤◌, cond, ◌&&◌, ◌||◌, List, [], ◌∷◌, eqb, ltb}
use Rattle.std.proofs.Common.{⊎_elim, eqb-true}
use Rattle.matrix.specs.declared.Fields.{Fields}
use Rattle.matrix.specs.declared.Shape.{Shape}
use Rattle.matrix.specs.Names.{name_of, column_of}
use Rattle.matrix.specs.State.{State}
use Rattle.matrix.specs.Commands.{rule_of, decode}
use Rattle.matrix.specs.Changes.{change}
use Rattle.matrix.specs.Step.{refusal, next}
use Rattle.matrix.specs.Shape.{basics_of}
use Rattle.matrix.specs.Shaped.{Within}
use Rattle.matrix.specs.Calls.{raw_of, names_fit, refusal_on, next_on, run_from}
use Rattle.laws.specs.Tests.{way, and_right}
use Rattle.laws.specs.Passed.{Taken, taken}
use Rattle.frame.specs.Stays.{names_in, right_fits, within_change}

-- A command on a record stays within the record, accepted or refused.
pub within_next : (f : Shape) (S : State) (c : Fields) → 1 ≤ f.width → Within f S → Within f (next_on f S c)
unfolding next_on next
within_next f S c b k =
    ⊎_elim (λ e. rw e (made (taken (basics_of f) (names_fit f c) S (raw_of f c) (eqb-true (refusal (basics_of f) (names_fit f c) S (raw_of f c)) 0 e)))) (λ e. rw e k)
    (way (eqb (refusal (basics_of f) (names_fit f c) S (raw_of f c)) 0))
  where
    made : Taken (basics_of f) (names_fit f c) S (raw_of f c) → Within f (change S (decode (raw_of f c)) (rule_of c.code c.k).act)
    made t =
        let r = rule_of c.code c.k in
        let used = cond r.k (ltb c.k (basics_of f)) (eqb c.k 0) in
        let unused = (r.s || eqb c.s 0) && (r.o || eqb (column_of (name_of f.n c.o)) 0) in
        within_change f S (decode (raw_of f c)) r.act b k (names_in f c t.bounds) (right_fits f c.code c.k b (and_right unused used t.fields))

-- So does a run of commands.
pub within_run : (f : Shape) (S : State) (cs : List Fields) (accepted : ℕ) → 1 ≤ f.width → Within f S → Within f (run_from accepted f S cs).state
unfolding run_from
within_run f S [] accepted b k = k
within_run f S (c ∷ cs) accepted b k =
    let rest = within_run f (next_on f S c) cs (accepted + 1) b (within_next f S c b k) in
    ⊎_elim (λ e. rw e rest) (λ e. rw e k) (way (eqb (refusal_on f S c) 0))
