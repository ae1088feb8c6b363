-- Subjects from which following owners leads to U; and that this is so of every existing subject exactly where no subject is above itself,
-- so that none is met again on the way up.
use Prim.Native.Nat.{ℕ}
use Rattle.std.specs.Prelude.{◌≡◌, Bool, true}
use Rattle.matrix.specs.declared.Name.{Name}
use Rattle.matrix.specs.declared.Name.TheVariants.{Subject}
use Rattle.matrix.specs.Names.{U}
use Rattle.matrix.specs.Owners.{Above, owner, higher}

-- U is rooted, and so is a subject with a rooted owner.
pub data Rooted (owns : ℕ → Name → Bool) : ℕ → Type 0 where
  root : Rooted owns U
  under : {s w : ℕ} → owns w (Subject s) ≡ true → Rooted owns w → Rooted owns s

-- who is above one above is above
pub above_trans : {owns : ℕ → Name → Bool} {x : Name} {b v : ℕ} → Above owns x b → Above owns (Subject b) v → Above owns x v
above_trans (owner h) g = higher h g
above_trans (higher h up) g = higher h (above_trans up g)
