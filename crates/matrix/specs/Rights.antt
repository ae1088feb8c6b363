-- Rights (Manual 1.2): own, control, and basic rights in two forms. The code of a right is the number of its bit in a cell.
use Rattle.std.specs.Prelude.{ℕ, zero, suc, ◌+◌, ◌*◌, ◌/◌, ◌%◌, Bool, true, false, cond, List, [], ◌∷◌, eqb}
use Rattle.matrix.specs.declared.Form.{Form}
use Rattle.matrix.specs.declared.Form.TheVariants.{Plain, Starred}
use Rattle.matrix.specs.declared.Right.{Right}
use Rattle.matrix.specs.declared.Right.TheVariants.{Own, Control, Basic}

abbrev pub code_of : Right → ℕ
code_of Own = 0
code_of Control = 1
code_of (Basic k Plain) = 2 + 2 * k
code_of (Basic k Starred) = 3 + 2 * k

abbrev pub right_of : ℕ → Right
right_of zero = Own
right_of (suc zero) = Control
right_of (suc (suc j)) = Basic (j / 2) (cond (eqb (j % 2) 0) Plain Starred)

abbrev pub same_form : Form → Form → Bool
same_form Plain Plain = true
same_form Plain Starred = false
same_form Starred Plain = false
same_form Starred Starred = true

-- The rights of which a set bit makes the right held (Manual 1.3): the right itself, beside a plain basic right its starred form, and beside any
-- basic right own.
abbrev pub held_by : Right → List Right
held_by Own = Own ∷ []
held_by Control = Control ∷ []
held_by (Basic k Plain) = Basic k Plain ∷ Basic k Starred ∷ Own ∷ []
held_by (Basic k Starred) = Basic k Starred ∷ Own ∷ []
