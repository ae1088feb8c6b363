-- The targets that a valid state may have, and those that none has.
use Rattle.std.specs.Prelude.{ℕ, ◌≡◌, ◌≢◌, Bool, true, false, not, ◌&&◌, ◌||◌, eqb}
use Rattle.matrix.specs.declared.Name.{Name}
use Rattle.matrix.specs.declared.Name.TheVariants.{Subject, Plain}
use Rattle.matrix.specs.declared.Right.{Right}
use Rattle.matrix.specs.declared.Right.TheVariants.{Own, Control, Basic}
use Rattle.matrix.specs.Names.{U}

-- Some valid state has s with the right x over o. Own: o is plain, or a subject other than s and U. Control: o is a subject, and is
-- not U or s is U. A basic right: always.
abbrev pub possible : ℕ → Name → Right → Bool
possible s (Plain o) Own = true
possible s (Subject o) Own = not (eqb o s) && not (eqb o U)
possible s (Plain o) Control = false
possible s (Subject o) Control = not (eqb o U) || eqb s U
possible s (Plain o) (Basic k f) = true
possible s (Subject o) (Basic k f) = true

-- The targets that no valid state has: own over oneself, own over U, control over U by another, control over a plain object.
pub data Impossible (s : ℕ) (o : Name) (x : Right) : Type 0 where
  own_itself : x ≡ Own → o ≡ Subject s → Impossible s o x
  own_root : x ≡ Own → o ≡ Subject U → Impossible s o x
  control_root : x ≡ Control → o ≡ Subject U → s ≢ U → Impossible s o x
  control_plain : (a : ℕ) → x ≡ Control → o ≡ Plain a → Impossible s o x
