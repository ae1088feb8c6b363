-- Owners above a name, and the owner walk (Manual 4).
use Rattle.std.specs.Prelude.{ℕ, zero, suc, ◌+◌, ◌≡◌, Bool, true, false, cond, eqb, ltb}
use Rattle.matrix.specs.declared.Name.{Name}
use Rattle.matrix.specs.declared.Name.TheVariants.{Subject}
use Rattle.matrix.specs.declared.Walked.{Walked}
use Rattle.matrix.specs.declared.Walked.TheVariants.{Meets, Root, Lost}
use Rattle.matrix.specs.Bounded.{least}
use Rattle.matrix.specs.Names.{U, same_name}
use Rattle.matrix.specs.State.{State}

-- Above a name are its owners, and whoever is above one of its owners. U is no exception (Manual 4.1).
pub data Above (owns : ℕ → Name → Bool) : Name → ℕ → Type 0 where
  owner : {x : Name} {w : ℕ} → owns w x ≡ true → Above owns x w
  higher : {x : Name} {w v : ℕ} → owns w x ≡ true → Above owns (Subject w) v → Above owns x v

-- the owner of subject s: the lowest row that owns it, or `top` if none does. (In a valid state there is one owner.)
abbrev pub owner_of : ℕ → (ℕ → Name → Bool) → ℕ → ℕ
owner_of top owns s = least top (λ w. owns w (Subject s))

-- The owner walk (Manual 4.2): at each subject it asks whether this is the wanted name o, then whether it is U, and else goes to the
-- owner, which is one more link. `left` is how many subjects the walk may still visit: `top` is enough in a valid state, where the
-- walk is never lost.
unfoldable pub walk_from : ℕ → (ℕ → Name → Bool) → ℕ → ℕ → Name → ℕ → Walked
walk_from top owns zero s o links = Lost
walk_from top owns (suc left) s o links =
    cond (same_name (Subject s) o) (Meets links)
    (cond (eqb s U) (Root links)
    (cond (ltb (owner_of top owns s) top) (walk_from top owns left (owner_of top owns s) o (links + 1)) Lost))

abbrev pub walk : State → ℕ → Name → Walked
walk S s o = walk_from S.top S.owns S.top s o 0

abbrev pub meets : Walked → Bool
meets (Meets links) = true
meets (Root links) = false
meets Lost = false

abbrev pub links_of : Walked → ℕ
links_of (Meets links) = links
links_of (Root links) = links
links_of Lost = 0
