-- Deleting what is there: the claims hold.
use Rattle.std.specs.Prelude.{ℕ, ◌≡◌, refl, ◌≢◌, Bool, true, false, ◌&&◌, ◌||◌, List, [], ◌∷◌, eqb}
use Rattle.std.proofs.Common.{arith, sym, ◌∙◌, subst, ⊎_elim, eqb-true}
use Rattle.std.proofs.Math.Path.{ap}
use Rattle.std.proofs.Math.Bool.{cond, or-false}
use Rattle.std.proofs.Math.Dec.{ltb}
use Rattle.matrix.specs.declared.Name.{Name}
use Rattle.matrix.specs.declared.Name.TheVariants.{Subject}
use Rattle.matrix.specs.declared.Form.{Form}
use Rattle.matrix.specs.declared.Form.TheVariants.{Plain, Starred}
use Rattle.matrix.specs.declared.Right.TheVariants.{Basic}
use Rattle.matrix.specs.declared.Fields.{Fields}
use Rattle.matrix.specs.Answers.{Accepted}
use Rattle.matrix.specs.Names.{name_of}
use Rattle.matrix.specs.State.{State, exists, exists_name, put}
use Rattle.matrix.specs.Commands.{Raw}
use Rattle.matrix.specs.Tests.{first_failed}
use Rattle.matrix.specs.Step.{refusal_of, refusal, next}
use Rattle.matrix.specs.Shape.{limits, shape_of, basics_of}
use Rattle.matrix.specs.Shaped.{Octets}
use Rattle.matrix.specs.Reading.{state_of}
use Rattle.matrix.specs.Calls.{names_fit, raw_of, command_answer, command_bytes}
use Rattle.laws.specs.Tests.{and_both, or_cases}
use Rattle.laws.specs.Passed.{itself}
use Rattle.laws.specs.Changed.{has_put}
use Rattle.laws.specs.Same.{same_right_refl, is_cell_same}
use Rattle.demands.proofs.SheetHolds.{sheet}
use Rattle.demands.specs.Printed.{one_of}
use Rattle.demands.proofs.Demand2Holds.{demand_2}
use Rattle.demands.specs.Deletes.{deletes, Deletes}

-- the tests of a delete in turn: i, then s and o, then the right of i, then the bit; before them, whether its fields fit
abbrev in_turn : Bool → Bool → Bool → Bool → ℕ
in_turn initiator there entitled set = cond initiator (cond there (cond entitled (cond set 0 19) 12) 10) 8

passed : (f i t e s : Bool) → cond f (in_turn i t e s) 7 ≡ 0 → (f ≡ true) × (i ≡ true) × (t ≡ true) × (e ≡ true)
passed true true true true s h = (refl, refl, refl, refl)
passed true true true false s h = absurd (omega arith)
passed true true false e s h = absurd (omega arith)
passed true false t e s h = absurd (omega arith)
passed false i t e s h = absurd (omega arith)

module _ (basics : ℕ) (names : Bool) where
  module _ (S : State) (i s : ℕ) (o : Name) (k : ℕ) where
    abbrev there : Bool
    there = exists S s && exists_name S o

    abbrev entitled : Bool
    entitled = S.owns i o || S.controls i (Subject s)

    number : (form : Form) → refusal basics names S (deletes i s o k form) ≡ cond (names && ltb k basics) (in_turn (exists S i) there entitled (S.basic k form s o)) 7
    unfolding refusal refusal_of first_failed
    number Plain = ap (λ (m : ℕ). cond (names && ltb k basics) m 7) (itself (in_turn (exists S i) there entitled (S.basic k Plain s o)))
    number Starred = ap (λ (m : ℕ). cond (names && ltb k basics) m 7) (itself (in_turn (exists S i) there entitled (S.basic k Starred s o)))

    leaves : (form : Form) → refusal basics names S (deletes i s o k form) ≡ 0 → next basics names S (deletes i s o k form) ≡ put (Basic k form) s o false S
    leaves Plain e = (sheet basics names S i s o k).delete_plain.leaves e
    leaves Starred e = (sheet basics names S i s o k).delete_starred.leaves e

  module _ (S : State) (i s : ℕ) (o : Name) (k : ℕ) (form : Form) where
    -- the bit is clear in the state after the delete
    abbrev after : State
    after = put (Basic k form) s o false S

    cleared : after.basic k form s o ≡ false
    cleared =
        has_put (Basic k form) s o false S (Basic k form) s o
        ∙ ap (λ (t : Bool). cond t false (S.basic k form s o)) (and_both (same_right_refl (Basic k form)) (is_cell_same s o))

    again : refusal basics names S (deletes i s o k form) ≡ 0 → refusal basics names (next basics names S (deletes i s o k form)) (deletes i s o k form) ≡ 19
    again e =
        let p = passed (names && ltb k basics) (exists S i) (there S i s o k) (entitled S i s o k) (S.basic k form s o) (sym (number S i s o k form) ∙ e) in
        ap (λ (T : State). refusal basics names T (deletes i s o k form)) (leaves S i s o k form e)
        ∙ number after i s o k form
        ∙ rw (p.0, p.1, p.2, p.3, cleared) refl

-- a delete that is accepted changes the record: it would be refused by 19 else
module _ (b : List ℕ) (i s o k followed : ℕ) (octets : Octets b) where
  abbrev given : ℕ → Fields
  given code = record { code = code; i = i; s = s; o = o; k = k }

  changed : (code : ℕ) (form : Form) → raw_of (shape_of b) (given code) ≡ deletes i s (name_of (shape_of b).n o) k form
      → command_answer limits b (given code) ≡ Accepted followed → command_bytes limits b (given code) ≢ b
  changed code form is accepted same =
      let c = given code in
      let basics = basics_of (shape_of b) in
      let names = names_fit (shape_of b) c in
      let x = name_of (shape_of b).n o in
      let zero : refusal basics names (state_of b) (deletes i s x k form) ≡ 0 =
      ap (λ (r : Raw). refusal basics names (state_of b) r) (sym is) ∙ ((demand_2.accepted b c followed).0 accepted).accepted in
      let stays : state_of b ≡ next basics names (state_of b) (deletes i s x k form) =
      ap state_of (sym same) ∙ (demand_2.next b c followed octets accepted).state ∙ ap (λ (r : Raw). next basics names (state_of b) r) is in
      let nineteen : refusal basics names (state_of b) (deletes i s x k form) ≡ 19 =
      ap (λ (S : State). refusal basics names S (deletes i s x k form)) stays ∙ again basics names (state_of b) i s x k form zero in
      omega (arith, zero, nineteen)

-- a delete is one of the two codes
two_codes : (P : ℕ → Type 0) (code : ℕ) → P 8 → P 9 → one_of code (8 ∷ 9 ∷ []) ≡ true → P code
two_codes P code eight nine h =
    ⊎_elim (λ e. subst P (sym (eqb-true code 8 e)) eight)
    (λ e. subst P (sym (eqb-true code 9 (sym (or-false (eqb code 9)) ∙ e))) nine) (or_cases (eqb code 8) (eqb code 9 || false) h)

pub deletes_right : Deletes
deletes_right =
    record {
      number = λ basics names S i s o k form. number basics names S i s o k form;
      again = λ basics names S i s o k form e. again basics names S i s o k form e;
      changes = λ b c followed code octets.
          two_codes (λ (m : ℕ). command_answer limits b (given b c.i c.s c.o c.k followed octets m) ≡ Accepted followed → command_bytes limits b (given b c.i c.s c.o c.k followed octets m) ≢ b) c.code
          (changed b c.i c.s c.o c.k followed octets 8 Plain refl) (changed b c.i c.s c.o c.k followed octets 9 Starred refl) code;
    }
