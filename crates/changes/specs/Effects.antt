-- Changes made of several parts: a right transferred, a subject created, and a subject destroyed.
use Rattle.std.specs.Prelude.{ℕ, suc, max, ◌<◌, ◌≡◌, true, false, List, ltb}
use Rattle.std.proofs.Common.{arith, sym, ◌∙◌, ap, subst, lt-ltb}
use Rattle.matrix.specs.declared.Name.{Name}
use Rattle.matrix.specs.declared.Name.TheVariants.{Subject}
use Rattle.matrix.specs.declared.Form.{Form}
use Rattle.matrix.specs.declared.Right.{Right}
use Rattle.matrix.specs.declared.Right.TheVariants.{Own, Control, Basic}
use Rattle.matrix.specs.declared.Act.{Act}
use Rattle.matrix.specs.declared.Act.TheVariants.{Transfer, DestroyObject}
use Rattle.matrix.specs.declared.Command.{Command}
use Rattle.matrix.specs.declared.Shape.{Shape}
use Rattle.matrix.specs.Names.{name_of, column_of}
use Rattle.matrix.specs.State.{put, clear}
use Rattle.matrix.specs.Shape.{columns}
use Rattle.matrix.specs.Reading.{state_of}
use Rattle.matrix.specs.Changes.{admit, inherit, in_column, in_cross, change}
use Rattle.codec.specs.Columns.{name_of_column_of, named_below}
use Rattle.cells.specs.Station.{Station}
use Rattle.states.specs.Reads.{top_is}
use Rattle.rules.specs.Needs.{ActIn, CommandIn}
use Rattle.bits.specs.Became.{Became}
use Rattle.bits.specs.Passed.{in_row}
use Rattle.bits.specs.Steps.{became_same, became_then, became_as}
use Rattle.bits.specs.Loops.{clear_clear}

-- a right is transferred, by its kind
module _ {b : List ℕ} (c : Command) {y : Right} where
  pub own_transferred : {b' b'' : List ℕ} → y ≡ Own → Became b b' (put Own c.i c.o false (state_of b))
      → Became b' b'' (put Own c.s c.o true (state_of b')) → Became b b'' (change (state_of b) c (Transfer y))
  own_transferred e f g =
      became_as (became_then (put Own c.s c.o true) f g) (sym (ap (λ (z : Right). change (state_of b) c (Transfer z)) e))

  pub control_transferred : {f : Shape} → y ≡ Control → Station b f → Became b b (change (state_of b) c (Transfer y))
  control_transferred e h = became_as (became_same h) (sym (ap (λ (z : Right). change (state_of b) c (Transfer z)) e))

  pub basic_transferred : {b' : List ℕ} {k : ℕ} {f : Form} → y ≡ Basic k f → Became b b' (put y c.s c.o true (state_of b))
      → Became b b' (change (state_of b) c (Transfer y))
  basic_transferred e g =
      became_as g
      (ap (λ (z : Right). put z c.s c.o true (state_of b)) e ∙ sym (ap (λ (z : Right). change (state_of b) c (Transfer z)) e))

-- the record has room for its subject names already
pub admitted : {b : List ℕ} {f : Shape} (s : ℕ) → Station b f → s < f.n → state_of b ≡ admit s (state_of b)
admitted {b} {f} s h l = ap (λ (m : ℕ). record { top = m; owns = (state_of b).owns; controls = (state_of b).controls; basic = (state_of b).basic }) room
  where
    room : (state_of b).top ≡ max (state_of b).top (suc s)
    room = let e : (state_of b).top ≡ f.n = top_is b f h in omega arith

pub created : {b b' b'' : List ℕ} {f : Shape} (i s : ℕ) → Station b f → s < f.n → Became b b' (put Own i (Subject s) true (state_of b))
    → Became b' b'' (put Control s (Subject s) true (state_of b'))
    → Became b b'' (put Control s (Subject s) true (put Own i (Subject s) true (admit s (state_of b))))
created i s h l e g =
    became_then (put Control s (Subject s) true) (became_as e (ap (put Own i (Subject s) true) (admitted s h l))) g

-- a subject's column by its number
subject_column : {b b' : List ℕ} (n s : ℕ) → s < n → Became b b' (clear (in_column (name_of n s)) (state_of b))
    → Became b b' (clear (in_column (Subject s)) (state_of b))
subject_column {b} n s l h = let e : ltb s n ≡ true = lt-ltb s n l in rw e at h

pub destroyed : {b b' b'' b''' : List ℕ} (n i s : ℕ) → s < n → Became b b' (inherit i s (state_of b))
    → Became b' b'' (clear (in_column (name_of n s)) (state_of b')) → Became b'' b''' (clear (in_row s) (state_of b''))
    → Became b b''' (clear (in_cross s) (inherit i s (state_of b)))
destroyed {b} n i s l f g h =
    became_as (became_then (clear (in_row s)) (became_then (clear (in_column (Subject s))) f (subject_column n s l g)) h)
    (clear_clear (in_column (Subject s)) (in_row s) (inherit i s (state_of b)))

-- ---- a command's change

-- the right that an act names is one of the record's
pub right_of : {b : List ℕ} {f : Shape} {c : Command} {a : Act} → CommandIn b f c → c.act ≡ a → ActIn f a
right_of {f = f} h e = subst (ActIn f) e h.right

-- the object has a column of the record
pub object_column : {b : List ℕ} {f : Shape} {d : ℕ} {c : Command} → CommandIn b f c → d ≡ column_of c.o → d < columns f
object_column {f = f} {c = c} h e = rw e (named_below f.n f.p c.o h.object)

-- the change that the act of a command makes is the command's
pub acted : {b b' : List ℕ} (c : Command) {a : Act} → c.act ≡ a → Became b b' (change (state_of b) c a)
    → Became b b' (change (state_of b) c c.act)
acted {b} c e h = became_as h (sym (ap (λ (a : Act). change (state_of b) c a) e))

pub object_cleared : {b b' : List ℕ} {f : Shape} {d : ℕ} (c : Command) → CommandIn b f c → c.act ≡ DestroyObject → d ≡ column_of c.o
    → Became b b' (clear (in_column (name_of f.n d)) (state_of b)) → Became b b' (change (state_of b) c c.act)
object_cleared {b} {f = f} c h a e g =
    acted c a (became_as g (ap (λ (x : Name). clear (in_column x) (state_of b)) (ap (name_of f.n) e ∙ name_of_column_of f.n f.p c.o h.object)))
