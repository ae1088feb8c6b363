-- States (Manual 1.3): for any subject as row and any name as column, the rights that have their bit set.
use Rattle.std.specs.Prelude.{ℕ, Bool, false, cond, ◌&&◌, ◌||◌, List, [], ◌∷◌, eqb}
use Rattle.matrix.specs.declared.Name.{Name}
use Rattle.matrix.specs.declared.Name.TheVariants.{Subject, Plain}
use Rattle.matrix.specs.declared.Form.{Form}
use Rattle.matrix.specs.declared.Right.{Right}
use Rattle.matrix.specs.declared.Right.TheVariants.{Own, Control, Basic}
use Rattle.matrix.specs.Bounded.{any}
use Rattle.matrix.specs.Names.{same_name}
use Rattle.matrix.specs.Rights.{same_form, held_by}

-- The set bits, in three matrices of row and column: own, control, and basic right k in each form.
-- `top` is a bound on the numbers of the subjects that exist (part of Valid), so that a search below `top` is one over all subjects.
pub record State : Type 0 where
  pub top : ℕ
  pub owns : ℕ → Name → Bool
  pub controls : ℕ → Name → Bool
  pub basic : ℕ → Form → ℕ → Name → Bool

-- the bit of a right in the cell of row w and column x
abbrev pub has : State → Right → ℕ → Name → Bool
has S Own w x = S.owns w x
has S Control w x = S.controls w x
has S (Basic k f) w x = S.basic k f w x

-- one of these rights has its bit set
abbrev pub has_one : State → List Right → ℕ → Name → Bool
has_one S [] w x = false
has_one S (y ∷ ys) w x = has S y w x || has_one S ys w x

-- w holds right y over x: one of the bits by which y is held is set (Manual 1.3)
abbrev pub held : State → Right → ℕ → Name → Bool
held S y w x = has_one S (held_by y) w x

-- subject s exists: control is set in its own cell (Manual 3.1)
abbrev pub subject_in : (ℕ → Name → Bool) → ℕ → Bool
subject_in controls s = controls s (Subject s)

-- plain object o exists: at least one subject owns it (Manual 3.1)
abbrev pub object_in : ℕ → (ℕ → Name → Bool) → ℕ → Bool
object_in top owns o = any top (λ w. owns w (Plain o))

abbrev pub name_in : ℕ → (ℕ → Name → Bool) → (ℕ → Name → Bool) → Name → Bool
name_in top owns controls (Subject s) = subject_in controls s
name_in top owns controls (Plain o) = object_in top owns o

abbrev pub exists : State → ℕ → Bool
exists S s = subject_in S.controls s

abbrev pub exists_name : State → Name → Bool
exists_name S x = name_in S.top S.owns S.controls x

-- the cell of row w and column x is that of row r and column c
abbrev pub is_cell : ℕ → Name → ℕ → Name → Bool
is_cell r c w x = same_name x c && eqb w r

abbrev pub put_matrix : ℕ → Name → Bool → (ℕ → Name → Bool) → ℕ → Name → Bool
put_matrix r c v m w x = cond (is_cell r c w x) v (m w x)

-- the state with one bit of one cell set (true) or cleared (false)
abbrev pub put : Right → ℕ → Name → Bool → State → State
put Own r c v S = record { top = S.top; owns = put_matrix r c v S.owns; controls = S.controls; basic = S.basic }
put Control r c v S = record { top = S.top; owns = S.owns; controls = put_matrix r c v S.controls; basic = S.basic }
put (Basic k f) r c v S =
    record { top = S.top; owns = S.owns; controls = S.controls; basic = λ j g w x. cond (eqb j k && same_form g f) (put_matrix r c v (S.basic j g) w x) (S.basic j g w x) }

abbrev pub clear_matrix : (ℕ → Name → Bool) → (ℕ → Name → Bool) → ℕ → Name → Bool
clear_matrix gone m w x = cond (gone w x) false (m w x)

-- the state with every bit of the cells that `gone` names cleared
abbrev pub clear : (ℕ → Name → Bool) → State → State
clear gone S =
    record { top = S.top; owns = clear_matrix gone S.owns; controls = clear_matrix gone S.controls; basic = λ j g. clear_matrix gone (S.basic j g) }
