-- Safe since o exists, every subject above o is trusted and, if x is a basic right, no untrusted subject has its star over o.
use Rattle.std.specs.Prelude.{ℕ, ◌≡◌, Bool, true}
use Rattle.std.proofs.Common.{subst, ⊎_elim}
use Rattle.matrix.specs.declared.Name.{Name}
use Rattle.matrix.specs.declared.Right.TheVariants.{Own}
use Rattle.matrix.specs.State.{State, exists}
use Rattle.matrix.specs.Owners.{Above, owner}
use Rattle.matrix.specs.Valid.{Valid}
use Rattle.kept.specs.Parts.{above_owns}
use Rattle.owners.specs.Rooted.{above_trans}
use Rattle.safe.specs.Conditions.{UpFrom}

-- whoever owns o, or a subject above o, is above o
pub up_owner : (owns : ℕ → Name → Bool) (o a : Name) → UpFrom owns o a → (w : ℕ) → owns w a ≡ true → Above owns o w
up_owner owns o a up w h =
    ⊎_elim (λ e. owner (subst (λ (n : Name). owns w n ≡ true) e h))
    (λ m. above_trans m.2 (owner (subst (λ (n : Name). owns w n ≡ true) m.1 h))) up

-- whoever is above a name exists
pub above_exists : {S : State} → Valid S → (x : Name) (v : ℕ) → Above S.owns x v → exists S v ≡ true
above_exists {S} valid x v up = let y = above_owns S.owns x v up in valid.row Own v y.0 y.1
