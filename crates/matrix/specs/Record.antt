-- Validity of a record's bytes (Manual 3.2), and the refusals 1 to 5. The five conditions are tests here, over the record's names; that
-- they are the five conditions of Valid is proved, both ways.
use Rattle.std.specs.Prelude.{ℕ, zero, suc, Bool, cond, not, ◌&&◌, ◌||◌, List, [], ◌∷◌, eqb, ltb, leb, length}
use Rattle.matrix.specs.declared.Name.{Name}
use Rattle.matrix.specs.declared.Name.TheVariants.{Subject, Plain}
use Rattle.matrix.specs.declared.Shape.{Shape}
use Rattle.matrix.specs.Bounded.{any, all, count}
use Rattle.matrix.specs.Names.{U, name_of}
use Rattle.matrix.specs.Rights.{right_of}
use Rattle.matrix.specs.State.{State, has, exists, exists_name}
use Rattle.matrix.specs.Owners.{owner_of}
use Rattle.matrix.specs.Tests.{test, first_failed}
use Rattle.matrix.specs.Shape.{Limits, shape_of, header_bytes, known_version, in_range, sized, bits_of, columns}
use Rattle.matrix.specs.Reading.{state_of}

-- the cell of row w and column x has no bit set
abbrev pub empty_cell : Shape → State → ℕ → Name → Bool
empty_cell f S w x = not (any (bits_of f) (λ j. has S (right_of j) w x))

-- 1: in the row and in the column of an absent name no bit is set
abbrev pub absent_zero : Shape → State → Bool
absent_zero f S = all f.n (λ w. all (columns f) (λ c. empty_cell f S w (name_of f.n c) || exists S w && exists_name S (name_of f.n c)))

-- 2: nobody controls a plain object
abbrev pub plain_uncontrolled : Shape → State → Bool
plain_uncontrolled f S = all f.n (λ w. all (columns f) (λ c. ltb c f.n || not (S.controls w (Plain c))))

-- 3: U exists, nobody owns it, and nobody but U controls it
abbrev pub root_right : Shape → State → Bool
root_right f S = exists S U && all f.n (λ w. not (S.owns w (Subject U)) && (eqb w U || not (S.controls w (Subject U))))

-- 4: an existing subject but U has exactly one owner, and at most one subject other than itself controls it
abbrev pub one_owner_each : Shape → State → Bool
one_owner_each f S =
    all f.n (λ s. eqb s U || not (exists S s) ||
    eqb (count f.n (λ w. S.owns w (Subject s))) 1 && leb (count f.n (λ w. S.controls w (Subject s) && not (eqb w s))) 1)

-- the subject that is come to by following `links` owners upward from s; U and a subject with no owner stay where they are
unfoldable pub climb : ℕ → (ℕ → Name → Bool) → ℕ → ℕ → ℕ
climb top owns zero s = s
climb top owns (suc links) s = climb top owns links (cond (ltb (owner_of top owns s) top) (owner_of top owns s) s)

-- 5, as a test (Manual 3.3): n owners up from an existing subject is U
abbrev pub all_rooted : Shape → State → Bool
all_rooted f S = all f.n (λ s. not (exists S s) || eqb (climb f.n S.owns f.n s) U)

unfoldable pub valid_matrix : Shape → State → Bool
valid_matrix f S = absent_zero f S && plain_uncontrolled f S && root_right f S && one_owner_each f S && all_rooted f S

-- The refusals 1 to 5 (Manual 7.1): too few bytes, the version, n and p, L and the length, the five conditions.
unfoldable pub record_refusal : Limits → List ℕ → ℕ
record_refusal most b =
    first_failed (test 1 (leb header_bytes (length b)) ∷
    test 2 (known_version (shape_of b).version) ∷
    test 3 (in_range most (shape_of b)) ∷
    test 4 (sized b) ∷
    test 5 (valid_matrix (shape_of b) (state_of b)) ∷ [])
