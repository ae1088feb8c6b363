-- A list run is the command call on each of its commands in turn, and the run that stopped is that of the list's first commands.
use Rattle.std.specs.Prelude.{ℕ, ◌+◌, ◌≡◌, refl, Bool, true, false, cond, List, [], ◌∷◌, eqb}
use Rattle.std.proofs.Common.{sym, ◌∙◌, ap, ⊎_elim}
use Rattle.matrix.specs.declared.Fields.{Fields}
use Rattle.matrix.specs.Answers.{Answer}
use Rattle.matrix.specs.Numbers.{command_numbers}
use Rattle.matrix.specs.State.{State}
use Rattle.matrix.specs.declared.Shape.{Shape}
use Rattle.matrix.specs.Shape.{limits, shape_of}
use Rattle.matrix.specs.Shaped.{Octets}
use Rattle.matrix.specs.Reading.{Content, state_of, content, bytes_of}
use Rattle.matrix.specs.Record.{record_refusal}
use Rattle.matrix.specs.CommandList.{well_formed, commands_of}
use Rattle.matrix.specs.Calls.{refusal_on, links_on, next_on, command_bytes, Ran, run_from, ran_on, run_refusal, run_answer, run_bytes}
use Rattle.laws.specs.Tests.{way}
use Rattle.laws.specs.Numbers.{answer_number}
use Rattle.codec.specs.RoundTrip.{read_write}
use Rattle.owners.specs.Read.{record_shaped}
use Rattle.demands.specs.First.{condition}
use Rattle.demands.specs.FirstLaws.{none_before}
use Rattle.demands.specs.Printed.{record_conditions}
use Rattle.demands.proofs.Refusals.{record_numbered, run_numbered}
use Rattle.demands.specs.InTurn.{Ended, ended, refusal_number, in_turn}
use Rattle.demands.specs.Records.{Sound, sound_record, written_answer, written_bytes, sound_next}

-- the run's outcome and the record that holds its state
abbrev ran : Shape → Ran → Ended
ran f r = ended r.accepted r.refusal (bytes_of (content f r.state))

-- the number of a command on a record that holds a valid state
number_written : (m : Content) (sound : Sound m) (c : Fields) → refusal_number (bytes_of m) c ≡ refusal_on m.shape m.state c
number_written m sound c =
    ap (λ (a : Answer). (command_numbers a).refusal) (written_answer m sound c)
    ∙ answer_number (refusal_on m.shape m.state c) (links_on m.shape m.state c)

-- from a state that a record holds
turns : (f : Shape) (S : State) → Sound (content f S) → (j : ℕ) (cs : List Fields) → in_turn j (bytes_of (content f S)) cs ≡ ran f (run_from j f S cs)
unfolding in_turn run_from
turns f S sound j [] = refl
turns f S sound j (c ∷ cs) = ⊎_elim (accepted (turns f (next_on f S c) (sound_next (content f S) sound c) (j + 1) cs)) refused (way (eqb (refusal_on f S c) 0))
  where
    b : List ℕ
    b = bytes_of (content f S)

    number : refusal_number b c ≡ refusal_on f S c
    number = number_written (content f S) sound c

    -- by the number that the definition gives
    chosen : Bool → Ended
    chosen t = cond t (in_turn (j + 1) (command_bytes limits b c) cs) (ended j (refusal_on f S c) b)

    by_number : cond (eqb (refusal_number b c) 0) (in_turn (j + 1) (command_bytes limits b c) cs) (ended j (refusal_number b c) b) ≡ chosen (eqb (refusal_on f S c) 0)
    by_number = ap (λ (k : ℕ). cond (eqb k 0) (in_turn (j + 1) (command_bytes limits b c) cs) (ended j k b)) number

    stopped : Ran
    stopped = record { accepted = j; refusal = refusal_on f S c; state = S }

    accepted : in_turn (j + 1) (bytes_of (content f (next_on f S c))) cs ≡ ran f (run_from (j + 1) f (next_on f S c) cs) → eqb (refusal_on f S c) 0 ≡ true
        → cond (eqb (refusal_number b c) 0) (in_turn (j + 1) (command_bytes limits b c) cs) (ended j (refusal_number b c) b) ≡ ran f (cond (eqb (refusal_on f S c) 0) (run_from (j + 1) f (next_on f S c) cs) stopped)
    accepted rest e =
        let next : command_bytes limits b c ≡ bytes_of (content f (next_on f S c)) =
        written_bytes (content f S) sound c ∙ ap (λ (t : Bool). cond t (bytes_of (content f (next_on f S c))) b) e in
        by_number ∙ ap chosen e ∙ ap (λ (x : List ℕ). in_turn (j + 1) x cs) next
        ∙ rest
        ∙ sym (ap (λ (t : Bool). ran f (cond t (run_from (j + 1) f (next_on f S c) cs) stopped)) e)

    refused : eqb (refusal_on f S c) 0 ≡ false
        → cond (eqb (refusal_number b c) 0) (in_turn (j + 1) (command_bytes limits b c) cs) (ended j (refusal_number b c) b) ≡ ran f (cond (eqb (refusal_on f S c) 0) (run_from (j + 1) f (next_on f S c) cs) stopped)
    refused e = by_number ∙ ap chosen e ∙ sym (ap (λ (t : Bool). ran f (cond t (run_from (j + 1) f (next_on f S c) cs) stopped)) e)

-- a run that is not turned down before its first command has a record that is not
pub run_valid : (b l : List ℕ) → run_refusal limits b l ≡ 0 → record_refusal limits b ≡ 0
run_valid b l passes =
    (record_numbered b).answered.1 (none_before (record_conditions b) (condition 16 (well_formed l ≡ false) ∷ []) ((run_numbered b l).answered.0 passes))

module _ (b l : List ℕ) (octets : Octets b) (passes : run_refusal limits b l ≡ 0) where
  valid : record_refusal limits b ≡ 0
  valid = run_valid b l passes

  -- the run from the record's own state
  whole : in_turn 0 b (commands_of l) ≡ ran (shape_of b) (ran_on b l)
  whole =
      ap (λ (x : List ℕ). in_turn 0 x (commands_of l)) (sym (read_write b (record_shaped b valid) octets))
      ∙ turns (shape_of b) (state_of b) (sound_record b valid) 0 (commands_of l)

  pub run_turns : run_answer limits b l ≡ (in_turn 0 b (commands_of l)).outcome
  unfolding run_answer
  run_turns = rw passes (sym (ap (λ (e : Ended). e.outcome) whole))

  pub bytes_turns : run_bytes limits b l ≡ (in_turn 0 b (commands_of l)).bytes
  unfolding run_bytes
  bytes_turns = rw passes (sym (ap (λ (e : Ended). e.bytes) whole))
