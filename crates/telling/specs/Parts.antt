-- The commands of a list's parts, and the subjects of a path.
use Rattle.std.specs.Prelude.{ℕ, zero, suc, ◌<◌, ◌≡◌, refl, Bool, true, false, cond, ◌||◌, eqb, List, [], ◌∷◌, ◌++◌, length, take, slice_index}
use Rattle.std.specs.List.{list_any}
use Rattle.std.proofs.Common.{not-suc-le-zero, arith, ap}
use Rattle.matrix.specs.declared.Name.{Name}
use Rattle.matrix.specs.declared.Right.{Right}
use Rattle.matrix.specs.declared.Right.TheVariants.{Own, Control, Basic}
use Rattle.matrix.specs.declared.Form.{Form}
use Rattle.matrix.specs.declared.Form.TheVariants.{Starred}
use Rattle.matrix.specs.declared.Fields.{Fields}
use Rattle.matrix.specs.Names.{column_of}
use Rattle.route.specs.Parts.{destroys, creates, gives, finish, destroys_all, among}
use Rattle.ways.specs.Ways.{passes_right}

-- the code by which a holder of the star passes a right on; own and control, which it cannot pass, are as in the list of its way
abbrev pub passing_code : Right → ℕ
passing_code Own = 1
passing_code Control = 1
passing_code (Basic k Form.Plain) = 1
passing_code (Basic k Starred) = 2

-- ---- the end of a list, from its commands

pub finish_is : {v s o : ℕ} (x : Name) (y : Right) {d c e g : Fields} (absent again : Bool) → o ≡ column_of x → d ≡ destroys v o → c ≡ creates v o
    → e ≡ creates v s → g ≡ gives v s x y
    → (cond again (d ∷ []) [] ++ cond again (c ∷ []) []) ++ (cond absent (e ∷ []) [] ++ (g ∷ [])) ≡ finish v s x y absent again
finish_is x y absent true o d c e g = rw (d, c, e, g, o) refl
finish_is x y absent false o d c e g = rw (e, g) refl

pub star_is : {i s : ℕ} (x : Name) (y : Right) {e g : Fields} (absent : Bool) → e ≡ creates i s → g ≡ passes_right i s x y
    → cond absent (e ∷ []) [] ++ (g ∷ []) ≡ cond absent (creates i s ∷ []) [] ++ (passes_right i s x y ∷ [])
star_is x y absent e g = rw (e, g) refl

-- ---- the subjects of a path

pub destroys_none : (v : ℕ) → [] ≡ destroys_all v []
unfolding destroys_all
destroys_none v = refl

pub length_destroys : (v : ℕ) (ws : List ℕ) → length (destroys_all v ws) ≡ length ws
unfolding destroys_all
length_destroys v [] = refl
length_destroys v (w ∷ ws) = ap suc (length_destroys v ws)

pub destroys_more : (v : ℕ) (ws : List ℕ) (k : ℕ) → k < length ws → destroys_all v (take k ws) ++ (destroys v (slice_index ws k) ∷ []) ≡ destroys_all v (take (suc k) ws)
unfolding destroys_all
destroys_more v [] k l = absurd (not-suc-le-zero l)
destroys_more v (w ∷ ws) zero l = refl
destroys_more v (w ∷ ws) (suc k) l = ap (λ (cs : List Fields). destroys v w ∷ cs) (destroys_more v ws k (omega arith))

pub any_among : (s : ℕ) (ws : List ℕ) → list_any (λ (w : ℕ). eqb s w) ws ≡ among s ws
unfolding among
any_among s [] = refl
any_among s (w ∷ ws) = ap (λ (b : Bool). eqb s w || b) (any_among s ws)
