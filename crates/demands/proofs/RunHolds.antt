-- What demand 1 says of a list run holds.
use Rattle.std.specs.Prelude.{ℕ, ◌+◌, ◌≤◌, ◌<◌, ◌≡◌, refl, ◌≢◌, true, List, [], ◌∷◌, ◌++◌, take}
use Rattle.std.proofs.Math.Nat.{zero-add}
use Rattle.std.proofs.Common.{arith, ◌∙◌}
use Rattle.std.proofs.Math.Path.{sym, ap, ap₂, subst}
use Rattle.std.proofs.Math.Logic.{inl, inr, ⊎_elim}
use Rattle.std.proofs.Math.Bool.{false}
use Rattle.std.proofs.Math.Dec.{eqb}
use borrow.Author.Tests.{ne_eqb}
use Rattle.matrix.specs.declared.Fields.{Fields}
use Rattle.matrix.specs.Answers.{Outcome}
use Rattle.matrix.specs.Numbers.{run_numbers}
use Rattle.matrix.specs.State.{State}
use Rattle.matrix.specs.declared.Shape.{Shape}
use Rattle.matrix.specs.Shape.{limits, shape_of}
use Rattle.matrix.specs.Shaped.{Octets}
use Rattle.matrix.specs.Reading.{state_of}
use Rattle.matrix.specs.CommandList.{command_place, commands_in, well_formed, fields_at, commands_of}
use Rattle.matrix.specs.Calls.{refusal_on, next_on, run_refusal, ran_on, run_from, run_answer, run_bytes}
use Rattle.laws.specs.Tests.{way, clash, holds}
use Rattle.lists.specs.Formed.{length_commands}
use Rattle.demands.specs.First.{condition, Condition, First, NoneHolds, Among}
use Rattle.demands.specs.FirstLaws.{numbered_among, none_before, none_after, none_both, among_outside, among_inside}
use Rattle.demands.specs.Printed.{record_conditions, command_conditions, run_conditions}
use Rattle.demands.proofs.Refusals.{command_numbered, run_numbered}
use Rattle.demands.specs.InTurn.{Ended, in_turn, refusal_number, first_commands}
use Rattle.demands.proofs.Turns.{run_turns, bytes_turns}
use Rattle.demands.specs.Shortened.{cut_formed, cut_commands}
use Rattle.demands.proofs.Stopped.{Stopped, stopped, command_at}
use Rattle.demands.specs.Demand1.{StoppedAfter, TurnedDown, RunRight}

-- the refusals of a record, of a command on it, and of a list
abbrev of_record : List ℕ
of_record = 1 ∷ 2 ∷ 3 ∷ 4 ∷ 5 ∷ []

abbrev of_command : List ℕ
of_command = 6 ∷ 7 ∷ 8 ∷ 9 ∷ 10 ∷ 11 ∷ 12 ∷ 19 ∷ 13 ∷ 14 ∷ []

abbrev of_run : List ℕ
of_run = of_record ++ (of_command ++ (16 ∷ []))

-- the refusal of the commands in turn is that of a command, or 0
ran_among : (j : ℕ) (f : Shape) (S : State) (cs : List Fields) → Among (run_from j f S cs).refusal (0 ∷ of_command)
unfolding run_from
ran_among j f S [] = inl refl
ran_among j f S (c ∷ cs) =
    ⊎_elim (λ e. rw e (ran_among (j + 1) f (next_on f S c) cs)) (λ e. rw e (numbered_among (command_conditions f S c) (command_numbered f S c))) (way (eqb (refusal_on f S c) 0))

module _ (b l : List ℕ) where
  abbrev of_list : List Condition
  of_list = condition 16 (well_formed l ≡ false) ∷ []

  turned : (number : ℕ) → number ≢ 0 → First (run_conditions b l) number → TurnedDown b l number
  unfolding run_answer run_bytes
  turned number some h =
      let e : run_refusal limits b l ≡ number = ((run_numbered b l).refused number some).1 h in
      let n : eqb number 0 ≡ false = ne_eqb number 0 some in
      rw (e, n) (refl, refl)

  by_command : NoneHolds (run_conditions b l) → Among (run_numbers (run_answer limits b l)).refusal (0 ∷ of_command)
  unfolding run_answer
  by_command none = let e : run_refusal limits b l ≡ 0 = (run_numbered b l).answered.1 none in rw e (ran_among 0 (shape_of b) (state_of b) (commands_of l))

  only : Among (run_numbers (run_answer limits b l)).refusal (0 ∷ of_run)
  unfolding run_answer
  only =
      ⊎_elim (λ e. rw e (wider (ran_on b l).refusal (ran_among 0 (shape_of b) (state_of b) (commands_of l))))
      (λ e. rw e (widest (run_refusal limits b l) (numbered_among (run_conditions b l) (run_numbered b l)))) (way (eqb (run_refusal limits b l) 0))
    where
      wider : (m : ℕ) → Among m (0 ∷ of_command) → Among m (0 ∷ of_run)
      wider m (inl e) = inl e
      wider m (inr h) = inr (among_inside m of_record of_command (16 ∷ []) h)

      widest : (m : ℕ) → Among m (0 ∷ (of_record ++ (16 ∷ []))) → Among m (0 ∷ of_run)
      widest m (inl e) = inl e
      widest m (inr h) = inr (among_outside m of_record of_command (16 ∷ []) h)

  module _ (octets : Octets b) (none : NoneHolds (run_conditions b l)) where
    passes : run_refusal limits b l ≡ 0
    passes = (run_numbered b l).answered.1 none

    right : well_formed l ≡ true
    right = holds (well_formed l) (none_after (record_conditions b) of_list none).0

    abbrev T : Ended
    T = in_turn 0 b (commands_of l)

    answer_is : run_answer limits b l ≡ T.outcome
    answer_is = run_turns b l octets passes

    bytes_are : run_bytes limits b l ≡ T.bytes
    bytes_are = bytes_turns b l octets passes

    module _ (s : Stopped 0 b (commands_of l) T) where
      m : ℕ
      m = s.done

      number_of : T.outcome.accepted ≡ m
      unfolding m
      number_of = s.accepted ∙ zero-add m

      below : m < commands_in l
      unfolding m
      below = subst (λ (k : ℕ). m < k) (length_commands l 0 (commands_in l)) s.within

      few : m ≤ commands_in l
      few = let b = below in omega arith

      abbrev cut : List ℕ
      cut = first_commands m l

      cut_passes : run_refusal limits b cut ≡ 0
      cut_passes =
          (run_numbered b cut).answered.1
          (none_both (record_conditions b) (condition 16 (well_formed cut ≡ false) ∷ []) (none_before (record_conditions b) of_list none) (λ e. clash (cut_formed l right m few) e, tt))

      -- the first m commands in turn
      first_turn : in_turn 0 b (commands_of cut) ≡ record { outcome = record { accepted = m; refusal = 0 }; bytes = T.bytes }
      unfolding m
      first_turn =
          ap (in_turn 0 b) (cut_commands l right m few) ∙ s.before
          ∙ ap (λ (k : ℕ). record { outcome = record { accepted = k; refusal = 0 }; bytes = T.bytes }) (zero-add m)

      after : StoppedAfter b l m
      unfolding m in_turn
      after =
          record {
            accepted = run_turns b cut octets cut_passes ∙ ap (λ (e : Ended). e.outcome) first_turn;
            bytes = bytes_turns b cut octets cut_passes ∙ ap (λ (e : Ended). e.bytes) first_turn ∙ sym bytes_are;
            earned =
                ap₂ refusal_number bytes_are (sym (command_at l 0 (commands_in l) m here below ∙ ap (λ (k : ℕ). fields_at l (command_place k)) (zero-add m)))
                ∙ s.refused here ∙ ap (λ (o : Outcome). o.refusal) (sym answer_is);
            first = λ z. bytes_are ∙ sym (ap (λ (e : Ended). e.bytes) s.before) ∙ ap (λ (k : ℕ). (in_turn 0 b (take k (commands_of l))).bytes) z;
          }
        where
          here : Fields
          here = fields_at l 0

    ended_so : (run_numbers (run_answer limits b l)).refusal ≢ 0 → StoppedAfter b l (run_answer limits b l).accepted
    ended_so some =
        let s = stopped 0 b (commands_of l) (λ e. some (ap (λ (o : Outcome). o.refusal) answer_is ∙ e)) in
        subst (StoppedAfter b l) (sym (ap (λ (o : Outcome). o.accepted) answer_is ∙ number_of s)) (after s)

  pub run_right : RunRight b l
  run_right = record { turned = turned; each = λ octets none. (answer_is octets none, bytes_are octets none); by_command = by_command; only = only; stopped = ended_so }
