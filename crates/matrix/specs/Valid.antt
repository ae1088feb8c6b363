-- Valid states: the five conditions of Manual 3.2, over all names.
use Rattle.std.specs.Prelude.{ℕ, ◌<◌, ◌≡◌, ◌≢◌, true, false}
use Rattle.matrix.specs.declared.Name.{Name}
use Rattle.matrix.specs.declared.Name.TheVariants.{Subject, Plain}
use Rattle.matrix.specs.declared.Right.{Right}
use Rattle.matrix.specs.Names.{U}
use Rattle.matrix.specs.State.{State, has, exists, exists_name}
use Rattle.matrix.specs.Owners.{Above}

pub record Valid (S : State) : Type 0 where
  -- 1: in the row and in the column of an absent name no bit is set
  pub row : (y : Right) (w : ℕ) (x : Name) → has S y w x ≡ true → exists S w ≡ true
  pub column : (y : Right) (w : ℕ) (x : Name) → has S y w x ≡ true → exists_name S x ≡ true
  -- 2: nobody controls a plain object
  pub plain : (w o : ℕ) → S.controls w (Plain o) ≡ false
  -- 3: U exists, nobody owns it, and nobody but U controls it
  pub root : exists S U ≡ true
  pub root_owner : (w : ℕ) → S.owns w (Subject U) ≡ false
  pub root_controller : (w : ℕ) → S.controls w (Subject U) ≡ true → w ≡ U
  -- 4: an existing subject but U has exactly one owner, and at most one subject other than itself controls it
  pub owned : (s : ℕ) → s ≢ U → exists S s ≡ true → (w : ℕ) × (S.owns w (Subject s) ≡ true)
  pub one_owner : (s w v : ℕ) → S.owns w (Subject s) ≡ true → S.owns v (Subject s) ≡ true → w ≡ v
  pub one_controller : (s w v : ℕ) → S.controls w (Subject s) ≡ true → w ≢ s → S.controls v (Subject s) ≡ true → v ≢ s → w ≡ v
  -- 5: from owner to owner one comes to no subject twice: none is above itself
  pub no_cycle : (s : ℕ) → Above S.owns (Subject s) s → ⊥
  -- `top` is a bound on the subjects that exist
  pub bound : (s : ℕ) → exists S s ≡ true → s < S.top
