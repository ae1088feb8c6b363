-- What is told of a way, from the parts that were written.
use Rattle.std.specs.Prelude.{ℕ, ◌+◌, ◌≤◌, ◌<◌, ◌≡◌, Bool, true, false, cond, not, ◌&&◌, ◌||◌, List, [], ◌∷◌, ◌++◌, eqb, length}
use Rattle.std.proofs.Common.{refl, arith, sym, ◌∙◌, ap, ap₂, append-nil, length-append}
use Rattle.matrix.specs.declared.Name.{Name}
use Rattle.matrix.specs.declared.Name.TheVariants.{Subject}
use Rattle.matrix.specs.declared.Right.{Right}
use Rattle.matrix.specs.declared.Fields.{Fields}
use Rattle.matrix.specs.declared.Shape.{Shape}
use Rattle.matrix.specs.Names.{column_of, named, same_name}
use Rattle.matrix.specs.State.{State, exists}
use Rattle.matrix.specs.Shape.{most_subjects, basics_of}
use Rattle.matrix.specs.Reading.{state_of}
use Rattle.codec.specs.Columns.{named_below}
use Rattle.codec.specs.ShapeRight.{ShapeRight}
use Rattle.codec.proofs.ShapeRight.{width_some}
use Rattle.cells.specs.Station.{right_shape}
use Rattle.states.specs.Needs.{RightIn}
use Rattle.question.specs.Safety.{Safety}
use Rattle.question.specs.Safety.{Leaks}
use Rattle.question.specs.Asked.{list_room}
use Rattle.route.specs.Parts.{creates, creates_name, held_by_own, finish, destroys_all, among, basic_number}
use Rattle.finish.specs.Finish.{again_needed}
use Rattle.ways.specs.Ways.{Way, held_now, by_star, by_creation, from_above, list_of, made_held, passes_right}
use Rattle.writing.specs.Put.{put_all, put_list}
use Rattle.telling.specs.declared.target.Target.{Target}
use Rattle.telling.specs.Tells.{Tells, Fits}
use Rattle.telling.specs.Parts.{length_destroys}
use Rattle.told.specs.Told.{Told}
use Rattle.safety.specs.Asks.{Asks, Headed}
use Rattle.safety.specs.Steps.{headed_list}

-- the number of a right of a shape, 0 where it has none, is one of its basic rights'
pub number_in : {f : Shape} (y : Right) → ShapeRight f → RightIn f y → basic_number y < basics_of f
number_in {f} Right.Own g h = omega (arith, width_some f g)
number_in {f} Right.Control g h = omega (arith, width_some f g)
number_in (Right.Basic k e) g h = h

-- a list that is written whole and headed is told
pub told_held : {S : State} {s : ℕ} {x : Name} {y : Right} {out out' : List ℕ} {r : Safety} → Headed out out' 0 r → Told S s x y held_now out out' r
unfolding put_list put_all
told_held h = record { reply = h.reply; buffer = h.buffer }

whole : {out mid out' : List ℕ} {k : ℕ} {r : Safety} (cs ds : List Fields) → cs ≡ ds → Tells out mid 0 cs k → Headed mid out' k r → (out' ≡ put_list out ds) × (r ≡ Leaks (length ds))
whole {out} cs ds e t h =
    let w = headed_list out cs t.bytes t.next h in
    (w.0 ∙ ap (λ (l : List Fields). put_list out l) e, w.1 ∙ ap (λ (l : List Fields). Leaks (length l)) e)

-- the list of each way, from the tests that the code makes
module _ (S : State) (s : ℕ) (x : Name) (y : Right) where
  pub star_list : (i : ℕ) {absent : Bool} → absent ≡ not (exists S s) → (cond absent (creates i s ∷ []) [] ++ (passes_right i s x y ∷ [])) ≡ list_of S s x y (by_star i)
  star_list i e = ap (λ (a : Bool). cond a (creates i s ∷ []) [] ++ (passes_right i s x y ∷ [])) e

  pub creation_list : (v : ℕ) {absent made : Bool} → made ≡ made_held v s x y → absent ≡ not (same_name (Subject s) x || exists S s)
      → (creates_name v x ∷ cond made [] (finish v s x y absent false)) ≡ list_of S s x y (by_creation v)
  creation_list v e f = ap₂ (λ (m a : Bool). creates_name v x ∷ cond m [] (finish v s x y a false)) e f

  pub owned_list : (v : ℕ) (ws : List ℕ) {t : Bool} → t ≡ (held_by_own y && eqb s v) → t ≡ true → destroys_all v ws ≡ list_of S s x y (from_above v ws)
  owned_list v ws e f =
      let g : (held_by_own y && eqb s v) ≡ true = sym e ∙ f in
      sym (ap (λ (u : Bool). destroys_all v ws ++ cond u [] (finish v s x y (not (exists S s) || among s ws) (again_needed S s x y))) g ∙ append-nil (destroys_all v ws))

  pub above_list : (v : ℕ) (ws : List ℕ) {t absent again : Bool} → t ≡ (held_by_own y && eqb s v) → t ≡ false → absent ≡ (not (exists S s) || among s ws) → again ≡ again_needed S s x y
      → (destroys_all v ws ++ finish v s x y absent again) ≡ list_of S s x y (from_above v ws)
  above_list v ws e f a g =
      let u : (held_by_own y && eqb s v) ≡ false = sym e ∙ f in
      ap₂ (λ (b c : Bool). destroys_all v ws ++ finish v s x y b c) a g
      ∙ sym (ap (λ (c : Bool). destroys_all v ws ++ cond c [] (finish v s x y (not (exists S s) || among s ws) (again_needed S s x y))) u)

module _ {S : State} {s : ℕ} {x : Name} {y : Right} {out mid out' : List ℕ} {k : ℕ} {r : Safety} {cs : List Fields} where
  pub told_star : (i : ℕ) → cs ≡ list_of S s x y (by_star i) → Tells out mid 0 cs k → Headed mid out' k r → Told S s x y (by_star i) out out' r
  told_star i e t h = let w = whole cs _ e t h in record { reply = w.1; buffer = w.0 }

  pub told_creation : (v : ℕ) → cs ≡ list_of S s x y (by_creation v) → Tells out mid 0 cs k → Headed mid out' k r → Told S s x y (by_creation v) out out' r
  told_creation v e t h = let w = whole cs _ e t h in record { reply = w.1; buffer = w.0 }

  pub told_above : (v : ℕ) (ws : List ℕ) → cs ≡ list_of S s x y (from_above v ws) → Tells out mid 0 cs k → Headed mid out' k r → Told S s x y (from_above v ws) out out' r
  told_above v ws e t h = let w = whole cs _ e t h in record { reply = w.1; buffer = w.0 }

-- ---- the rooms for what is written

module _ {b : List ℕ} {f : Shape} {t : Target} {w : Way} {out : List ℕ} (q : Asks b f t w out) where
  shape : ShapeRight f
  shape = right_shape q.bit.station

  -- the subjects of the record are few
  pub subject_few : {v : ℕ} → v < f.n → v < most_subjects
  subject_few l = omega (arith, shape.high)

  -- room for k commands from number j on
  pub room_for : (j k : ℕ) {mid : List ℕ} → j + k ≤ f.n + 2 → length mid ≡ length out → Fits mid j k
  room_for j k e h = let r : list_room (f.n + 2) ≤ length out = q.room in record { fits = omega arith }

module _ {b : List ℕ} {f : Shape} {t : Target} {v : ℕ} {ws : List ℕ} {out : List ℕ} (q : Asks b f t (from_above v ws) out) where
  -- room for a command about each subject of a path
  pub path_room : Fits out 0 (length ws)
  path_room =
      let after : List Fields =
      cond (held_by_own t.y && eqb t.s v) [] (finish v t.s t.x t.y (not (exists (state_of b) t.s) || among t.s ws) (again_needed (state_of b) t.s t.x t.y)) in
      room_for q 0 (length ws) (omega (arith, q.few, length-append (destroys_all v ws) after, length_destroys v ws)) refl

-- a column of a record's name is a byte
pub column_few : {f : Shape} (x : Name) → ShapeRight f → named f.n f.p x ≡ true → column_of x < 256
column_few {f} x g h = omega (arith, named_below f.n f.p x h, g.high, g.plain)
