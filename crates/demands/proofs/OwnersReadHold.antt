-- Owners read: the claims hold.
use Rattle.std.specs.Prelude.{ℕ, zero, suc, ◌/◌, ◌%◌, ◌<◌, ◌≡◌, Bool, true, false, cond, ◌&&◌, ◌||◌, List, [], ◌∷◌, eqb, ltb, length}
use native.Mathlib.Omega.{arith}
use Rattle.std.proofs.Math.Path.{refl}
use Rattle.std.proofs.Common.{sym, ◌∙◌, ap, lt-ltb, eqb-true}
use Rattle.std.proofs.Math.Bool.{or-false}
use Rattle.std.proofs.lemmas.Bool.{false≢true}
use Rattle.matrix.specs.declared.Name.{Name}
use Rattle.matrix.specs.declared.Form.{Form}
use Rattle.matrix.specs.declared.Form.TheVariants.{Plain, Starred}
use Rattle.matrix.specs.declared.Right.TheVariants.{Basic}
use Rattle.matrix.specs.Answers.{Holding}
use Rattle.matrix.specs.Names.{name_of}
use Rattle.matrix.specs.State.{State, held}
use Rattle.matrix.specs.Shape.{limits, shape_of, columns, bits_of}
use Rattle.matrix.specs.Reading.{state_of}
use Rattle.matrix.specs.Calls.{question_fits, held_refusal, holds_on, held_answer, run_from}
use Rattle.laws.specs.Tests.{clash, holds, and_left, and_both}
use Rattle.question.specs.Safety.{Safety}
use Rattle.question.specs.Asked.{LeaksRecord, Answers}
use Rattle.steps.specs.Runs.{leaks_unsafe}
use Rattle.demands.specs.First.{condition, NoneHolds}
use Rattle.demands.specs.FirstLaws.{none_before, none_after, none_both}
use Rattle.demands.specs.Printed.{record_conditions, safety_conditions}
use Rattle.demands.proofs.Refusals.{held_numbered}
use Rattle.demands.proofs.Demand3Holds.{demand_3}
use Rattle.demands.specs.OwnersRead.{OwnersRead}

-- the last of some tests put first
last_first : (t u w : Bool) → (t || (u || (w || false))) ≡ (w || (t || u))
last_first true true true = refl
last_first true true false = refl
last_first true false true = refl
last_first true false false = refl
last_first false true true = refl
last_first false true false = refl
last_first false false true = refl
last_first false false false = refl

-- an owner holds every basic right, and so the right of every code from 2 on
owner_basic : (S : State) (k : ℕ) (g : Form) (s : ℕ) (o : Name) → S.owns s o ≡ true → held S (Basic k g) s o ≡ true
owner_basic S k Plain s o h =
    last_first (S.basic k Plain s o) (S.basic k Starred s o) (S.owns s o) ∙ ap (λ (w : Bool). w || (S.basic k Plain s o || S.basic k Starred s o)) h
owner_basic S k Starred s o h =
    last_first false (S.basic k Starred s o) (S.owns s o) ∙ ap (λ (w : Bool). w || S.basic k Starred s o) h

owner_holds : (b : List ℕ) (s o right : ℕ) → (state_of b).owns s (name_of (shape_of b).n o) ≡ true → 1 < right → holds_on b s o right ≡ true
owner_holds b s o zero h l = absurd (omega arith)
owner_holds b s o (suc zero) h l = absurd (omega arith)
owner_holds b s o (suc (suc i)) h l = owner_basic (state_of b) (i / 2) (cond (eqb (i % 2) 0) Plain Starred) s (name_of (shape_of b).n o) h

abbrev is_yes : Holding → Bool
is_yes Holding.Yes = true
is_yes Holding.No = false
is_yes (Holding.Refused k) = false

-- an answer is yes where the call is not refused and the right is held
said_yes : (t u : Bool) (k : ℕ) → cond t (cond u Holding.Yes Holding.No) (Holding.Refused k) ≡ Holding.Yes → (t ≡ true) × (u ≡ true)
said_yes true true k e = (refl, refl)
said_yes true false k e = absurd (false≢true (ap is_yes e))
said_yes false u k e = absurd (false≢true (ap is_yes e))

module _ (b : List ℕ) (s o : ℕ) where
  yes : (right : ℕ) → held_answer limits b s o right ≡ Holding.Yes → (held_refusal limits b s o right ≡ 0) × (holds_on b s o right ≡ true)
  unfolding held_answer
  yes right e =
      let both = said_yes (eqb (held_refusal limits b s o right) 0) (holds_on b s o right) (held_refusal limits b s o right) e in
      (eqb-true (held_refusal limits b s o right) 0 both.0, both.1)

  owned : held_answer limits b s o 0 ≡ Holding.Yes → (state_of b).owns s (name_of (shape_of b).n o) ≡ true
  owned e = sym (or-false ((state_of b).owns s (name_of (shape_of b).n o))) ∙ (yes 0 e).1

  -- a question that fits for one right fits for another of the record
  fits : (right : ℕ) → held_answer limits b s o 0 ≡ Holding.Yes → right < bits_of (shape_of b) → held_refusal limits b s o right ≡ 0
  fits right e l =
      let none = (held_numbered b s o 0).answered.0 (yes 0 e).0 in
      let later = condition 7 (question_fits (shape_of b) s o 0 ≡ false) ∷ [] in
      let asked : question_fits (shape_of b) s o 0 ≡ true = holds _ (none_after (record_conditions b) later none).0 in
      let inside : question_fits (shape_of b) s o right ≡ true = within asked in
      (held_numbered b s o right).answered.1
      (none_both (record_conditions b) (condition 7 (question_fits (shape_of b) s o right ≡ false) ∷ []) (none_before (record_conditions b) later none)
      (λ q. clash inside q, tt))
    where
      within : question_fits (shape_of b) s o 0 ≡ true → question_fits (shape_of b) s o right ≡ true
      within h =
          and_both (and_left (ltb s (shape_of b).n && ltb o (columns (shape_of b))) (ltb 0 (bits_of (shape_of b))) h) (lt-ltb right (bits_of (shape_of b)) l)

  answered : (right : ℕ) → held_refusal limits b s o right ≡ 0 → holds_on b s o right ≡ true → held_answer limits b s o right ≡ Holding.Yes
  unfolding held_answer
  answered right none has = rw (none, has) refl

  empty_list : (mask right : ℕ) → held_answer limits b s o 0 ≡ Holding.Yes → 1 < right → LeaksRecord b mask s o right []
  unfolding run_from
  empty_list mask right e l =
      record { begun = tt; accepted = refl; whole = refl; reached = owner_holds b s o right (owned e) l; few = omega arith }

  leaking : (mask right : ℕ) (out out' : List ℕ) (r : Safety) → held_answer limits b s o 0 ≡ Holding.Yes → 1 < right
      → Answers limits b mask s o right out out' r → NoneHolds (safety_conditions b mask s o right (length out)) → (commands : ℕ) × (r ≡ Safety.Leaks commands)
  leaking mask right out out' r e l a none =
      let d = demand_3.decides b mask s o right out out' r a none in
      let w = d.leaks (λ safe. leaks_unsafe (empty_list mask right e l) (d.safe.0 safe)) in
      (w.0, w.1)

pub owners_read : OwnersRead
owners_read =
    record {
      own = λ S s o. or-false (S.owns s o);
      control = λ S s o. or-false (S.controls s o);
      plain = λ S k s o. last_first (S.basic k Plain s o) (S.basic k Starred s o) (S.owns s o);
      starred = λ S k s o. last_first false (S.basic k Starred s o) (S.owns s o);
      called = λ b s o right e l small. answered b s o right (fits b s o right e small) (owner_holds b s o right (owned b s o e) l);
      at_once = λ b mask s o right e l. empty_list b s o mask right e l;
      never_safe = λ b mask s o right out out' r e l a none. leaking b s o mask right out out' r e l a none;
    }
