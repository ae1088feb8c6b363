-- How a right can come to be held, if it can, and the list that makes it so. A reader need not believe these: it is proved
-- that "no way" is the definition's Safe, and that every other way's list leaks (crate decision).
use Rattle.std.specs.Prelude.{ℕ, Bool, true, false, cond, not, ◌&&◌, ◌||◌, List, [], ◌∷◌, ◌++◌, eqb, ltb}
use Rattle.matrix.specs.declared.Name.{Name}
use Rattle.matrix.specs.declared.Name.TheVariants.{Subject}
use Rattle.matrix.specs.declared.Right.{Right}
use Rattle.matrix.specs.declared.Right.TheVariants.{Own, Control, Basic}
use Rattle.matrix.specs.declared.Fields.{Fields}
use Rattle.matrix.specs.Bounded.{least}
use Rattle.matrix.specs.Names.{column_of, same_name}
use Rattle.matrix.specs.State.{State, held, exists, exists_name}
use Rattle.route.specs.Parts.{fields, creates, creates_name, passes, held_by_own, finish, destroys_all, until_owner, among}
use Rattle.route.specs.Rise.{Risen, meets_at, none, rises}
use Rattle.safe.specs.Possible.{possible}
use Rattle.safe.specs.Conditions.{has_star}
use Rattle.finish.specs.Finish.{again_needed}
use Rattle.chain.specs.Rising.{rise_in}

-- held already; passed on by an untrusted subject that has the star; over a name that an untrusted subject creates; by an untrusted
-- subject v above o, which destroys the trusted ones between; or not at all
pub data Way : Type 0 where
  held_now : Way
  by_star : ℕ → Way
  by_creation : ℕ → Way
  from_above : ℕ → List ℕ → Way
  no_way : Way

-- an untrusted subject with the star; an untrusted subject that exists; an owner of o with an untrusted subject at or above it
abbrev pub star_holder : State → (ℕ → Bool) → Name → Right → ℕ → Bool
star_holder S trusted o x i = not (trusted i) && has_star S x i o

abbrev pub untrusted_in : State → (ℕ → Bool) → ℕ → Bool
untrusted_in S trusted v = exists S v && not (trusted v)

abbrev pub riser : State → (ℕ → Bool) → Name → ℕ → Bool
riser S trusted o w = S.owns w o && rises (rise_in S trusted S.top w [])

-- Of the subjects that the way up passed those are destroyed that are needed. A subject has one owner, so that all are.
abbrev pub needed : State → Name → List ℕ → List ℕ
needed S (Subject a) ws = ws
needed S (Name.Plain a) ws = until_owner S.owns (Name.Plain a) ws

abbrev pub way_up : State → Name → Risen → Way
way_up S o (meets_at v ws) = from_above v (needed S o ws)
way_up S o none = no_way

-- the way up from the lowest owner of o from whom one meets an untrusted subject
unfoldable pub risen_over : State → (ℕ → Bool) → Name → Risen
risen_over S trusted o =
    cond (ltb (least S.top (riser S trusted o)) S.top) (rise_in S trusted S.top (least S.top (riser S trusted o)) []) none

-- the way over an existing o, and over an absent one
abbrev pub way_over : State → (ℕ → Bool) → Name → Way
way_over S trusted o = way_up S o (risen_over S trusted o)

unfoldable pub way_made : State → (ℕ → Bool) → Way
way_made S trusted =
    cond (ltb (least S.top (untrusted_in S trusted)) S.top) (by_creation (least S.top (untrusted_in S trusted))) no_way

unfoldable pub way_of : State → (ℕ → Bool) → ℕ → Name → Right → Way
way_of S trusted s o x =
    cond (held S x s o) held_now
    (cond (possible s o x)
    (cond (ltb (least S.top (star_holder S trusted o x)) S.top) (by_star (least S.top (star_holder S trusted o x)))
    (cond (exists_name S o) (way_over S trusted o) (way_made S trusted)))
    no_way)

abbrev pub is_control : Right → Bool
is_control Own = false
is_control Control = true
is_control (Basic k f) = false

abbrev pub passes_right : ℕ → ℕ → Name → Right → Fields
passes_right i s o Own = fields 1 i s (column_of o) 0
passes_right i s o Control = fields 1 i s (column_of o) 0
passes_right i s o (Basic k g) = passes i s o k g

-- s holds the right as soon as o is created: what own makes held, if s creates it, and control of a subject over itself
abbrev pub made_held : ℕ → ℕ → Name → Right → Bool
made_held v s o x = held_by_own x && eqb s v || is_control x && same_name (Subject s) o

-- the list of a way
abbrev pub list_of : State → ℕ → Name → Right → Way → List Fields
list_of S s o x held_now = []
list_of S s o x (by_star i) = cond (not (exists S s)) (creates i s ∷ []) [] ++ (passes_right i s o x ∷ [])
list_of S s o x (by_creation v) = creates_name v o ∷ cond (made_held v s o x) [] (finish v s o x (not (same_name (Subject s) o || exists S s)) false)
list_of S s o x (from_above v ws) =
    destroys_all v ws ++ cond (held_by_own x && eqb s v) [] (finish v s o x (not (exists S s) || among s ws) (again_needed S s o x))
list_of S s o x no_way = []
