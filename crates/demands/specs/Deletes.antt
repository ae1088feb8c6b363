-- Deleting what is there (Manual 5.4): code 8 clears the bit of a plain right and code 9 that of a starred one, where it is set. Nothing else that s
-- has over o counts, neither own nor the other form of the right.
use Rattle.std.specs.Prelude.{ℕ, ◌≡◌, ◌≢◌, Bool, true, cond, ◌&&◌, ◌||◌, List, [], ◌∷◌, ltb}
use Rattle.matrix.specs.declared.Name.{Name}
use Rattle.matrix.specs.declared.Name.TheVariants.{Subject}
use Rattle.matrix.specs.declared.Form.{Form}
use Rattle.matrix.specs.declared.Form.TheVariants.{Plain, Starred}
use Rattle.matrix.specs.declared.Fields.{Fields}
use Rattle.matrix.specs.Answers.{Accepted}
use Rattle.matrix.specs.State.{State, exists, exists_name}
use Rattle.matrix.specs.Commands.{Raw}
use Rattle.matrix.specs.Step.{refusal, next}
use Rattle.matrix.specs.Shape.{limits}
use Rattle.matrix.specs.Shaped.{Octets}
use Rattle.matrix.specs.Calls.{command_answer, command_bytes}
use Rattle.demands.specs.Row.{raw}
use Rattle.demands.specs.Printed.{one_of}

-- i deletes basic right k of s over o, in a form
abbrev pub deletes : ℕ → ℕ → Name → ℕ → Form → Raw
deletes i s o k Plain = raw 8 i s o k
deletes i s o k Starred = raw 9 i s o k

pub record Deletes : Type 0 where
  -- the whole refusal of a delete, test by test: 7, 8, 10, 12 and then 19, which asks for the one bit
  pub number : (basics : ℕ) (names : Bool) (S : State) (i s : ℕ) (o : Name) (k : ℕ) (form : Form)
      → refusal basics names S (deletes i s o k form)
      ≡ cond (names && ltb k basics)
      (cond (exists S i) (cond (exists S s && exists_name S o) (cond (S.owns i o || S.controls i (Subject s)) (cond (S.basic k form s o) 0 19) 12) 10) 8) 7
  -- a delete that was accepted is refused by 19 when it is given again
  pub again : (basics : ℕ) (names : Bool) (S : State) (i s : ℕ) (o : Name) (k : ℕ) (form : Form) → refusal basics names S (deletes i s o k form) ≡ 0
      → refusal basics names (next basics names S (deletes i s o k form)) (deletes i s o k form) ≡ 19
  -- a delete that is accepted on a record changes it
  pub changes : (b : List ℕ) (c : Fields) (followed : ℕ) → one_of c.code (8 ∷ 9 ∷ []) ≡ true → Octets b → command_answer limits b c ≡ Accepted followed
      → command_bytes limits b c ≢ b
