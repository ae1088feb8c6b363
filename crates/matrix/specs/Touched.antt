-- The bits that a command names: the only ones that it may change (Manual 5.5).
use Rattle.std.specs.Prelude.{ℕ, Bool, true, false, ◌&&◌, ◌||◌, eqb}
use Rattle.matrix.specs.declared.Name.{Name}
use Rattle.matrix.specs.declared.Name.TheVariants.{Subject}
use Rattle.matrix.specs.declared.Right.{Right}
use Rattle.matrix.specs.declared.Right.TheVariants.{Own, Control, Basic}
use Rattle.matrix.specs.declared.Act.{Act}
use Rattle.matrix.specs.declared.Act.TheVariants.{Transfer, Grant, Delete, CreateObject, DestroyObject, CreateSubject, DestroySubject}
use Rattle.matrix.specs.declared.Command.{Command}
use Rattle.matrix.specs.Rights.{same_form}
use Rattle.matrix.specs.State.{State, is_cell}
use Rattle.matrix.specs.Changes.{in_column, in_cross}

abbrev pub same_right : Right → Right → Bool
same_right Own Own = true
same_right Own Control = false
same_right Own (Basic k f) = false
same_right Control Own = false
same_right Control Control = true
same_right Control (Basic k f) = false
same_right (Basic k f) Own = false
same_right (Basic k f) Control = false
same_right (Basic j g) (Basic k f) = eqb j k && same_form g f

-- the bit of right y in the cell of row r and column c
abbrev pub is_bit : Right → ℕ → Name → Right → ℕ → Name → Bool
is_bit y r c z w x = same_right z y && is_cell r c w x

-- whether a command names the bit of right z in the cell of row w and column x
abbrev pub touched : State → Command → Act → Right → ℕ → Name → Bool
touched S c (Transfer Own) z w x = is_bit Own c.s c.o z w x || is_bit Own c.i c.o z w x
touched S c (Transfer Control) z w x = false
touched S c (Transfer (Basic k f)) z w x = is_bit (Basic k f) c.s c.o z w x
touched S c (Grant y) z w x = is_bit y c.s c.o z w x
touched S c (Delete y) z w x = is_bit y c.s c.o z w x
touched S c CreateObject z w x = is_bit Own c.i c.o z w x
touched S c DestroyObject z w x = in_column c.o w x
touched S c CreateSubject z w x = is_bit Own c.i (Subject c.s) z w x || is_bit Control c.s (Subject c.s) z w x
touched S c DestroySubject z w x = in_cross c.s w x || same_right z Own && eqb w c.i && S.owns c.s x
