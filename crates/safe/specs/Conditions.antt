-- The conditions under which an existing name is out of the reach of untrusted subjects.
use Rattle.std.specs.Prelude.{ℕ, ◌≡◌, ◌⊎◌, Bool, true, false}
use Rattle.matrix.specs.declared.Name.{Name}
use Rattle.matrix.specs.declared.Name.TheVariants.{Subject}
use Rattle.matrix.specs.declared.Form.{Form}
use Rattle.matrix.specs.declared.Form.TheVariants.{Starred}
use Rattle.matrix.specs.declared.Right.{Right}
use Rattle.matrix.specs.declared.Right.TheVariants.{Own, Control, Basic}
use Rattle.matrix.specs.State.{State}
use Rattle.matrix.specs.Owners.{Above}

-- every subject above o is trusted, U like any other
abbrev pub TrustedAbove : (ℕ → Name → Bool) → (ℕ → Bool) → Name → Type 0
TrustedAbove owns trusted o = (v : ℕ) → Above owns o v → trusted v ≡ true

-- where x is a basic right, no untrusted subject has it starred over o, in whichever form x itself is
abbrev pub Starless : State → (ℕ → Bool) → Name → Right → Type 0
Starless S trusted o x = (k : ℕ) (f : Form) → x ≡ Basic k f → (v : ℕ) → trusted v ≡ false → S.basic k Starred v o ≡ false

-- w has over o the star of the right x: the starred form of a basic right. Own and control have no star.
abbrev pub has_star : State → Right → ℕ → Name → Bool
has_star S Own w o = false
has_star S Control w o = false
has_star S (Basic k f) w o = S.basic k Starred w o

-- o itself, or a subject above it
abbrev pub UpFrom : (ℕ → Name → Bool) → Name → Name → Type 0
UpFrom owns o a = (a ≡ o) ⊎ ((v : ℕ) × (a ≡ Subject v) × Above owns o v)
