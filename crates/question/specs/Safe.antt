-- Safe (Manual 8.3): lists of commands begun by untrusted subjects never get there, however long and over whatever names.
use Rattle.std.specs.Prelude.{ℕ, ◌≡◌, Bool, true, false, List, [], ◌∷◌}
use Rattle.matrix.specs.declared.Name.{Name}
use Rattle.matrix.specs.declared.Right.{Right}
use Rattle.matrix.specs.State.{State, held}
use Rattle.matrix.specs.Commands.{Raw}
use Rattle.matrix.specs.Step.{next}

-- The state after a list in the definition (Manual 8.2): each command acts on what the one before left behind, and after a refused one,
-- which changes nothing, the next one follows. The tests of a command are those of a record, but names have no bounds: `names` is true.
unfoldable pub after : ℕ → State → List Raw → State
after basics S [] = S
after basics S (c ∷ cs) = after basics (next basics true S c) cs

-- Every command is begun by an untrusted subject; the trusted set is one for the whole list.
abbrev pub Begun : (ℕ → Bool) → List Raw → Type 0
Begun trusted [] = Unit
Begun trusted (c ∷ cs) = (trusted c.i ≡ false) × Begun trusted cs

-- One claim about the state after a whole list: subject s does not hold right x over o. The list is any list of raw commands, over
-- names of both kinds and any number.
pub record Safe (basics : ℕ) (S : State) (trusted : ℕ → Bool) (s : ℕ) (o : Name) (x : Right) : Type 0 where
  pub never : (cs : List Raw) → Begun trusted cs → held (after basics S cs) x s o ≡ false
