-- The worked rows that are theorems (Manual 11.2), gathered under one proof: those about commands (crate frame), and those about the safety
-- question. The safe ones go through the theorem that decides the question, the others are computed.
use Rattle.std.specs.Prelude.{ℕ, ◌+◌, ◌≤◌, ◌<◌, ◌≡◌, Bool, true, ◌&&◌, List, [], ◌∷◌, length}
use Rattle.std.proofs.Common.{arith, sym, ◌∙◌, ap, subst, inl, inr}
use Rattle.std.proofs.Math.Path.{refl}
use borrow.Author.Tests.{le-leb}
use Rattle.matrix.specs.declared.Fields.{Fields}
use Rattle.matrix.specs.Bounded.{any, all, count, least}
use Rattle.matrix.specs.Names.{name_of, named}
use Rattle.matrix.specs.Rights.{right_of}
use Rattle.matrix.specs.Owners.{walk_from}
use Rattle.matrix.specs.Tests.{first_failed}
use Rattle.matrix.specs.Step.{refusal_of, refusal, links, next}
use Rattle.matrix.specs.Bytes.{number_at, bit, from_bits}
use Rattle.matrix.specs.State.{State}
use Rattle.matrix.specs.declared.Shape.{Shape}
use Rattle.matrix.specs.Shape.{limits, shape_of, basics_of}
use Rattle.matrix.specs.Reading.{cell_at, bit_at, state_of}
use Rattle.matrix.specs.Record.{climb, valid_matrix, record_refusal}
use Rattle.matrix.specs.Calls.{question_fits, raw_of, names_fit, refusal_on, links_on, next_on, run_from}
use Rattle.laws.specs.Tests.{clash}
use Rattle.laws.specs.Bounded.{all_each}
use Rattle.laws.specs.Passed.{taken}
use Rattle.codec.specs.RoundTrip.{within_read}
use Rattle.owners.proofs.Read.{valid_record}
use Rattle.frame.specs.Stays.{names_in}
use Rattle.frame.specs.StationBytes.{A, B}
use Rattle.frame.specs.Stations.{Stations, stations}
use Rattle.question.specs.Trust.{trusted_by}
use Rattle.question.specs.Safety.{Safety}
use Rattle.question.specs.Leaks.{Untrusted}
use Rattle.question.specs.Asked.{trust_fits, list_room, safety_refusal, SafeRecord, LeaksRecord, Decided, Answers}
use Rattle.route.specs.Parts.{fields, basic_number, destroys_all, until_owner, among}
use Rattle.route.specs.Rise.{rise}
use Rattle.route.specs.RunsTo.{RunsTo, step}
use Rattle.ways.specs.Ways.{Way, no_way, risen_over, way_made, way_of, list_of}
use Rattle.steps.specs.Runs.{run_runs, leaks_unsafe}
use Rattle.decision.specs.Decides.{Says, decides}
use Rattle.demands.proofs.Refusals.{safety_numbered}
use Rattle.demands.specs.Demand3.{Decides}
use Rattle.demands.proofs.Demand3Holds.{demand_3}

-- the way that a question on a record is decided by
abbrev way_at : List ℕ → ℕ → ℕ → ℕ → ℕ → Way
way_at b mask s o right = way_of (state_of b) (trusted_by mask) s (name_of (shape_of b).n o) (right_of right)

A_7 : way_at A 7 1 3 2 ≡ no_way
unfolding A any all count least walk_from first_failed refusal_of refusal links next number_at bit from_bits shape_of cell_at bit_at state_of climb valid_matrix record_refusal rise risen_over way_made way_of
A_7 = refl

A_control : way_at A 7 1 2 1 ≡ no_way
unfolding A any all count least walk_from first_failed refusal_of refusal links next number_at bit from_bits shape_of cell_at bit_at state_of climb valid_matrix record_refusal rise risen_over way_made way_of
A_control = refl

A_1 : way_at A 1 1 1 0 ≡ no_way
unfolding A any all count least walk_from first_failed refusal_of refusal links next number_at bit from_bits shape_of cell_at bit_at state_of climb valid_matrix record_refusal rise risen_over way_made way_of
A_1 = refl

B_1 : way_at B 1 1 2 3 ≡ no_way
unfolding B any all count least walk_from first_failed refusal_of refusal links next number_at bit from_bits shape_of cell_at bit_at state_of climb valid_matrix record_refusal rise risen_over way_made way_of
B_1 = refl

-- Every question on a valid record, of names and a right within bounds, is decided.
decided : (b : List ℕ) (mask s o right : ℕ) → record_refusal limits b ≡ 0 → s < (shape_of b).n → named (shape_of b).n (shape_of b).p (name_of (shape_of b).n o) ≡ true → basic_number (right_of right) < basics_of (shape_of b) → way_at b mask s o right ≡ no_way → SafeRecord b mask s o right
decided b mask s o right valid ls ho lk h =
    subst (λ (w : Way). Says (shape_of b) (state_of b) (trusted_by mask) s (name_of (shape_of b).n o) (right_of right) w) h
    (decides (shape_of b) (state_of b) (trusted_by mask) s (name_of (shape_of b).n o) (right_of right) (valid_record b valid) (within_read b) ls ho lk)

-- The question is not turned down where the buffer has room for its list, and no list gets there: so the call answers "safe".
pub record SafeRow (b : List ℕ) (mask s o right : ℕ) : Type 0 where
  pub asked : (room : ℕ) → list_room ((shape_of b).n + 2) ≤ room → safety_refusal limits b mask s o right room ≡ 0
  pub safe : SafeRecord b mask s o right
  pub answers : (out out' : List ℕ) (r : Safety) → list_room ((shape_of b).n + 2) ≤ length out → Answers limits b mask s o right out out' r → r ≡ Safety.Safe

-- It is not turned down there, and the list cs gets there: so the call answers "leaks".
pub record LeaksRow (b : List ℕ) (mask s o right : ℕ) (cs : List Fields) : Type 0 where
  pub asked : (room : ℕ) → list_room ((shape_of b).n + 2) ≤ room → safety_refusal limits b mask s o right room ≡ 0
  pub leaks : LeaksRecord b mask s o right cs
  pub answers : (out out' : List ℕ) (r : Safety) → list_room ((shape_of b).n + 2) ≤ length out → Answers limits b mask s o right out out' r
      → (commands : ℕ) × (r ≡ Safety.Leaks commands)

pub record SafetyRows : Type 0 where
  -- A, 0, 1 and 2 trusted: subject 1 never comes to r0 over log 3. With 1 untrusted it does: it destroys 2 and grants itself r0
  pub a_7 : SafeRow A 7 1 3 2
  pub a_5 : LeaksRow A 5 1 3 2 (fields 13 1 2 0 0 ∷ fields 4 1 1 3 0 ∷ [])
  -- once it has destroyed 2 it owns log 3, and so holds r0 over it already
  pub a_5_short : LeaksRow A 5 1 3 2 (fields 13 1 2 0 0 ∷ [])
  -- A, only 0 trusted: subject 1 never owns itself
  pub a_1 : SafeRow A 1 1 1 0
  -- A, all trusted: subject 2 owns log 3 at the start, and the call answers so by no commands
  pub a_held : LeaksRow A 7 2 3 0 []
  pub a_held_at_once : (out out' : List ℕ) (r : Safety) → list_room 5 ≤ length out → Answers limits A 7 2 3 0 out out' r → r ≡ Safety.Leaks 0
  -- as the owner it holds r0 and r0* over log 3 too, though it is trusted; 1 owns 2 and doesn't hold control over it
  pub a_owner : LeaksRow A 7 2 3 2 []
  pub a_owner_at_once : (out out' : List ℕ) (r : Safety) → list_room 5 ≤ length out → Answers limits A 7 2 3 2 out out' r → r ≡ Safety.Leaks 0
  pub a_owner_starred : LeaksRow A 7 2 3 3 []
  pub a_owner_control : SafeRow A 7 1 2 1
  -- A, 0 untrusted: it comes to own 2 by destroying 1 ..
  pub a_6_up : LeaksRow A 6 0 2 0 (fields 13 0 1 0 0 ∷ [])
  -- .. and 2 comes to own 1, who is destroyed and created again
  pub a_6_down : LeaksRow A 6 2 1 0 (fields 13 0 1 0 0 ∷ fields 12 0 1 0 0 ∷ fields 3 0 2 1 0 ∷ [])
  -- B, nobody trusted: subject 1 and log 2 are created, and 1 is granted r0*. With 0 trusted that never happens
  pub b_0 : LeaksRow B 0 1 2 3 (fields 10 0 0 2 0 ∷ fields 12 0 1 0 0 ∷ fields 5 0 1 2 0 ∷ [])
  pub b_1 : SafeRow B 1 1 2 3
  -- 0 itself holds r0* over log 2 as soon as it creates it
  pub b_creator : LeaksRow B 0 0 2 3 (fields 10 0 0 2 0 ∷ [])

-- every row
pub record Worked : Type 0 where
  pub commands : Stations
  pub safety : SafetyRows

-- a list that is accepted from its first command on is empty where every subject of the record is trusted
no_initiator : (f : Shape) (S T : State) (trusted : ℕ → Bool) (cs : List Fields) → ((i : ℕ) → i < f.n → trusted i ≡ true) → Untrusted trusted cs → RunsTo f S cs T → length cs ≡ 0
unfolding refusal_on
no_initiator f S T trusted [] all begun r = refl
no_initiator f S T trusted (c ∷ cs) all begun (step a r) =
    let bounds = (taken (basics_of f) (names_fit f c) S (raw_of f c) a.accepted).bounds in
    absurd (clash (all c.i (names_in f c bounds).i) begun.0)

-- rows from what is computed of a question
module _ (b : List ℕ) (mask s o right : ℕ) (valid : record_refusal limits b ≡ 0) (fits : (question_fits (shape_of b) s o right && trust_fits (shape_of b) mask) ≡ true) where
  not_turned_down : (room : ℕ) → list_room ((shape_of b).n + 2) ≤ room → safety_refusal limits b mask s o right room ≡ 0
  unfolding safety_refusal first_failed
  not_turned_down room h = rw (valid, fits, le-leb (list_room ((shape_of b).n + 2)) room h) refl

  decision : (out out' : List ℕ) (r : Safety) → list_room ((shape_of b).n + 2) ≤ length out → Answers limits b mask s o right out out' r → Decides b mask s o right out out' r
  decision out out' r h a =
      demand_3.decides b mask s o right out out' r a ((safety_numbered b mask s o right (length out)).answered.0 (not_turned_down (length out) h))

  safe_row : SafeRecord b mask s o right → SafeRow b mask s o right
  safe_row safe = record { asked = not_turned_down; safe = safe; answers = λ out out' r h a. (decision out out' r h a).safe.1 safe }

  leaks_row : (cs : List Fields) → LeaksRecord b mask s o right cs → LeaksRow b mask s o right cs
  leaks_row cs leaks =
      record {
        asked = not_turned_down;
        leaks = leaks;
        answers = λ out out' r h a. let d = decision out out' r h a in let w = d.leaks (λ e. leaks_unsafe leaks (d.safe.0 e)) in (w.0, w.1);
      }

  -- where every subject of the record is trusted, what leaks is held at the start, and the answer is "leaks" by no commands
  by_none : ((i : ℕ) → i < (shape_of b).n → trusted_by mask i ≡ true) → (cs : List Fields) → LeaksRecord b mask s o right cs
      → (out out' : List ℕ) (r : Safety) → list_room ((shape_of b).n + 2) ≤ length out → Answers limits b mask s o right out out' r → r ≡ Safety.Leaks 0
  by_none all cs leaks out out' r h a = said (a.decided (not_turned_down (length out) h))
    where
      said : Decided b mask s o right out out' r → r ≡ Safety.Leaks 0
      said (inl d) = absurd (leaks_unsafe leaks d.2)
      said (inr d) =
          let w = d.2.leaks in
          let none = no_initiator (shape_of b) (state_of b) _ (trusted_by mask) _ all w.begun (run_runs (shape_of b) (state_of b) _ 0 w.accepted) in
          d.1 ∙ ap Safety.Leaks (sym d.2.number ∙ none)

-- every subject of A is trusted by the mask 7
all_of_A : (i : ℕ) → i < 3 → trusted_by 7 i ≡ true
unfolding bit all
all_of_A i h = all_each 3 (trusted_by 7) refl i h

pub worked : Worked
unfolding A B any all count least walk_from first_failed refusal_of refusal links next number_at bit from_bits shape_of cell_at bit_at state_of climb valid_matrix record_refusal refusal_on links_on next_on run_from
worked =
    record {
      commands = stations;
      safety =
          record {
            a_7 = safe_row A 7 1 3 2 refl refl (decided A 7 1 3 2 refl (omega arith) refl (omega arith) A_7);
            a_5 = leaks_row A 5 1 3 2 refl refl _ (record { begun = (refl, (refl, tt)); accepted = refl; whole = refl; reached = refl; few = omega arith });
            a_5_short = leaks_row A 5 1 3 2 refl refl _ (record { begun = (refl, tt); accepted = refl; whole = refl; reached = refl; few = omega arith });
            a_1 = safe_row A 1 1 1 0 refl refl (decided A 1 1 1 0 refl (omega arith) refl (omega arith) A_1);
            a_held = leaks_row A 7 2 3 0 refl refl _ (record { begun = tt; accepted = refl; whole = refl; reached = refl; few = omega arith });
            a_held_at_once = by_none A 7 2 3 0 refl refl all_of_A [] (record { begun = tt; accepted = refl; whole = refl; reached = refl; few = omega arith });
            a_owner = leaks_row A 7 2 3 2 refl refl _ (record { begun = tt; accepted = refl; whole = refl; reached = refl; few = omega arith });
            a_owner_at_once = by_none A 7 2 3 2 refl refl all_of_A [] (record { begun = tt; accepted = refl; whole = refl; reached = refl; few = omega arith });
            a_owner_starred = leaks_row A 7 2 3 3 refl refl _ (record { begun = tt; accepted = refl; whole = refl; reached = refl; few = omega arith });
            a_owner_control = safe_row A 7 1 2 1 refl refl (decided A 7 1 2 1 refl (omega arith) refl (omega arith) A_control);
            a_6_up = leaks_row A 6 0 2 0 refl refl _ (record { begun = (refl, tt); accepted = refl; whole = refl; reached = refl; few = omega arith });
            a_6_down = leaks_row A 6 2 1 0 refl refl _ (record { begun = (refl, (refl, (refl, tt))); accepted = refl; whole = refl; reached = refl; few = omega arith });
            b_0 = leaks_row B 0 1 2 3 refl refl _ (record { begun = (refl, (refl, (refl, tt))); accepted = refl; whole = refl; reached = refl; few = omega arith });
            b_1 = safe_row B 1 1 2 3 refl refl (decided B 1 1 2 3 refl (omega arith) refl (omega arith) B_1);
            b_creator = leaks_row B 0 0 2 3 refl refl _ (record { begun = (refl, tt); accepted = refl; whole = refl; reached = refl; few = omega arith });
          };
    }

-- the list that is written for a question
abbrev list_at : List ℕ → ℕ → ℕ → ℕ → ℕ → List Fields
list_at b mask s o right = list_of (state_of b) s (name_of (shape_of b).n o) (right_of right) (way_at b mask s o right)

-- The lists that are written for the questions above are short ones.
pub record WrittenRows : Type 0 where
  pub a_5_list : list_at A 5 1 3 2 ≡ fields 13 1 2 0 0 ∷ []
  pub a_6_up_list : list_at A 6 0 2 0 ≡ fields 13 0 1 0 0 ∷ []
  pub a_6_down_list : list_at A 6 2 1 0 ≡ fields 13 0 1 0 0 ∷ fields 12 0 1 0 0 ∷ fields 3 0 2 1 0 ∷ []
  pub b_0_list : list_at B 0 1 2 3 ≡ fields 10 0 0 2 0 ∷ fields 12 0 1 0 0 ∷ fields 5 0 1 2 0 ∷ []
  pub b_creator_list : list_at B 0 0 2 3 ≡ fields 10 0 0 2 0 ∷ []

pub written : WrittenRows
unfolding A B any all count least walk_from first_failed refusal_of refusal links next number_at bit from_bits shape_of cell_at bit_at state_of climb valid_matrix record_refusal rise risen_over way_made way_of destroys_all until_owner among
written = record { a_5_list = refl; a_6_up_list = refl; a_6_down_list = refl; b_0_list = refl; b_creator_list = refl }
