-- An entry counts for its own number alone.
use Rattle.std.specs.Prelude.{ℕ, ◌≡◌, refl, eqb}
use Rattle.std.proofs.Common.{⊎_elim, ne_eqb}
use Rattle.laws.specs.Tests.{way}
use Rattle.history.specs.Calls.{entry}
use Rattle.window.specs.Late.{hits}

pub other_hits : (number outcome other : ℕ) → (number ≡ other → ⊥) → hits other (entry number outcome) ≡ 0
other_hits number outcome other n =
    rw (ne_eqb number other n) (⊎_elim (λ t. rw t refl) (λ t. rw t refl) (way (eqb outcome 0)))
