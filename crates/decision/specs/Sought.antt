-- What is asked of a state, and small facts about it.
use Rattle.std.specs.Prelude.{ℕ, ◌<◌, ◌≡◌, refl, ◌≢◌, Bool, true, false, not, ◌&&◌, ◌||◌, eqb}
use Rattle.std.proofs.Common.{⊎_elim}
use Rattle.std.proofs.lemmas.Bool.{false≢true, not-true, eqb-false}
use Rattle.matrix.specs.declared.Name.{Name}
use Rattle.matrix.specs.declared.Name.TheVariants.{Subject}
use Rattle.matrix.specs.declared.Right.{Right}
use Rattle.matrix.specs.declared.Right.TheVariants.{Own, Control, Basic}
use Rattle.matrix.specs.declared.Shape.{Shape}
use Rattle.matrix.specs.Names.{named}
use Rattle.matrix.specs.State.{State, held, exists}
use Rattle.matrix.specs.Owners.{walk, meets, Above, owner, higher}
use Rattle.matrix.specs.Valid.{Valid}
use Rattle.matrix.specs.Shape.{basics_of}
use Rattle.matrix.specs.Shaped.{Within}
use Rattle.laws.specs.Tests.{clash, fails, and_left}
use Rattle.owners.specs.Walk.{walk_found}
use Rattle.route.specs.Parts.{basic_number}
use Rattle.safe.specs.Possible.{possible}
use Rattle.finish.specs.Finish.{Gainable}

-- a possible target is one that a grant can reach
pub gainable : (s : ℕ) (o : Name) (x : Right) → possible s o x ≡ true → Gainable s o x
gainable s (Name.Plain a) Own h = tt
gainable s (Subject a) Own h = eqb-false a s (not-true (eqb a s) (and_left (not (eqb a s)) (not (eqb a 0)) h))
gainable s (Name.Plain a) Control h = false≢true h
gainable s (Subject a) Control h = tt
gainable s (Name.Plain a) (Basic k f) h = tt
gainable s (Subject a) (Basic k f) h = tt

pub not_both : (t u : Bool) → not (t && not u) ≡ (not t || u)
not_both true true = refl
not_both true false = refl
not_both false u = refl

pub subject_same : {a b : ℕ} → Subject a ≡ Subject b → a ≡ b
subject_same e = cc

-- the walk from an absent subject meets nobody else
pub absent_walk : {S : State} → Valid S → (s : ℕ) (o : Name) → exists S s ≡ false → o ≢ Subject s → meets (walk S s o) ≡ false
absent_walk {S} V₁ s o none apart = fails (meets (walk S s o)) (λ h. ⊎_elim (λ e. apart e) (λ w. unowned w.2) (walk_found S s o h))
  where
    unowned : {v : ℕ} → Above S.owns (Subject s) v → ⊥
    unowned (owner e) = clash (V₁.column Own _ (Subject s) e) none
    unowned (higher e a) = clash (V₁.column Own _ (Subject s) e) none

-- what is asked: subject s, name o of the record and right x, which is possible and not held
pub record Sought (f : Shape) (S : State) (s : ℕ) (o : Name) (x : Right) : Type 0 where
  pub valid : Valid S
  pub within : Within f S
  pub subject : s < f.n
  pub object : named f.n f.p o ≡ true
  pub right : basic_number x < basics_of f
  pub reachable : possible s o x ≡ true
  pub unheld : held S x s o ≡ false
