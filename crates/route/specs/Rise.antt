-- The way up from an owner to the first untrusted subject.
use Rattle.std.specs.Prelude.{ℕ, zero, suc, Bool, true, false, cond, List, ◌∷◌, eqb, ltb}
use Rattle.matrix.specs.declared.Name.{Name}
use Rattle.matrix.specs.Names.{U}
use Rattle.matrix.specs.Owners.{owner_of}

-- the first untrusted subject v met, with the trusted ones passed on the way, the highest first; or none up to U
pub data Risen : Type 0 where
  meets_at : ℕ → List ℕ → Risen
  none : Risen

-- from subject w, `passed` being those below it that were passed
unfoldable pub rise : ℕ → (ℕ → Name → Bool) → (ℕ → Bool) → ℕ → ℕ → List ℕ → Risen
rise top owns trusted zero w passed = none
rise top owns trusted (suc left) w passed =
    cond (trusted w)
    (cond (eqb w U) none
    (cond (ltb (owner_of top owns w) top) (rise top owns trusted left (owner_of top owns w) (w ∷ passed)) none))
    (meets_at w passed)

abbrev pub rises : Risen → Bool
rises (meets_at v ws) = true
rises none = false
