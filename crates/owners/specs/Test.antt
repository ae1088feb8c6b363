-- The test of a record's matrix is the five conditions: it holds exactly where the state is valid.
use Rattle.std.specs.Prelude.{ℕ, ◌<◌, ◌≡◌, Bool, true, not, ◌&&◌, ◌||◌, eqb, ltb, leb}
use Rattle.matrix.specs.declared.Name.{Name}
use Rattle.matrix.specs.declared.Name.TheVariants.{Subject, Plain}
use Rattle.matrix.specs.declared.Shape.{Shape}
use Rattle.matrix.specs.Bounded.{all, count}
use Rattle.matrix.specs.Names.{U, name_of}
use Rattle.matrix.specs.Rights.{right_of}
use Rattle.matrix.specs.State.{State, has, exists, exists_name}
use Rattle.matrix.specs.Record.{empty_cell, climb}
use Rattle.laws.specs.Bounded.{all_each, each_all}

-- a test of every cell
pub cells_each : (n m : ℕ) (g : ℕ → ℕ → Bool) → all n (λ w. all m (g w)) ≡ true → (w c : ℕ) → w < n → c < m → g w c ≡ true
cells_each n m g h w c a b = all_each m (g w) (all_each n (λ v. all m (g v)) h w a) c b

pub each_cells : (n m : ℕ) (g : ℕ → ℕ → Bool) → ((w c : ℕ) → w < n → c < m → g w c ≡ true) → all n (λ w. all m (g w)) ≡ true
each_cells n m g h = each_all n (λ w. all m (g w)) (λ w a. each_all m (g w) (λ c b. h w c a b))

-- What the five tests ask of a cell, of a plain column, of U's column, of a subject's owners and other controllers, and of the
-- links above a subject.
abbrev pub bit_set : State → ℕ → Name → ℕ → Bool
bit_set S w x j = has S (right_of j) w x

abbrev pub cell_right : Shape → State → ℕ → ℕ → Bool
cell_right f S w c = empty_cell f S w (name_of f.n c) || exists S w && exists_name S (name_of f.n c)

abbrev pub plain_right : Shape → State → ℕ → ℕ → Bool
plain_right f S w c = ltb c f.n || not (S.controls w (Plain c))

abbrev pub root_controller : State → ℕ → Bool
root_controller S w = eqb w U || not (S.controls w (Subject U))

abbrev pub root_column : State → ℕ → Bool
root_column S w = not (S.owns w (Subject U)) && root_controller S w

abbrev pub owner : State → ℕ → ℕ → Bool
owner S s w = S.owns w (Subject s)

abbrev pub other_controller : State → ℕ → ℕ → Bool
other_controller S s w = S.controls w (Subject s) && not (eqb w s)

abbrev pub counts_right : Shape → State → ℕ → Bool
counts_right f S s = eqb (count f.n (owner S s)) 1 && leb (count f.n (other_controller S s)) 1

abbrev pub subject_right : Shape → State → ℕ → Bool
subject_right f S s = eqb s U || not (exists S s) || counts_right f S s

abbrev pub links_right : Shape → State → ℕ → Bool
links_right f S s = not (exists S s) || eqb (climb f.n S.owns f.n s) U
