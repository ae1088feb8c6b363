-- A command on a record stays within the record: its names, its rights and its `top`.
use Rattle.std.specs.Prelude.{ℕ, suc, ◌≤◌, ◌<◌, max, ◌≡◌, Bool, true, false, cond, ◌&&◌, eqb, ltb}
use Rattle.std.proofs.Common.{arith, sym, ◌∙◌, ⊎_elim, ltb-true, lt-ltb}
use Rattle.matrix.specs.declared.Name.{Name}
use Rattle.matrix.specs.declared.Name.TheVariants.{Subject}
use Rattle.matrix.specs.declared.Form.{Form}
use Rattle.matrix.specs.declared.Form.TheVariants.{Plain, Starred}
use Rattle.matrix.specs.declared.Right.{Right}
use Rattle.matrix.specs.declared.Right.TheVariants.{Own, Control, Basic}
use Rattle.matrix.specs.declared.Act.{Act}
use Rattle.matrix.specs.declared.Act.TheVariants.{Transfer, Grant, Delete, CreateObject, DestroyObject, CreateSubject, DestroySubject}
use Rattle.matrix.specs.declared.Rule.{Rule}
use Rattle.matrix.specs.declared.Command.{Command}
use Rattle.matrix.specs.declared.Fields.{Fields}
use Rattle.matrix.specs.declared.Shape.{Shape}
use Rattle.matrix.specs.Names.{named}
use Rattle.matrix.specs.Rights.{code_of}
use Rattle.matrix.specs.State.{State, has, put, clear}
use Rattle.matrix.specs.Commands.{rule_of, rules, decode}
use Rattle.matrix.specs.Changes.{change, admit, inherit, in_column, in_cross}
use Rattle.matrix.specs.Shape.{bits_of, basics_of, columns}
use Rattle.matrix.specs.Shaped.{Within}
use Rattle.matrix.specs.Calls.{raw_of, names_fit}
use Rattle.laws.specs.Tests.{and_left, and_right}
use Rattle.laws.specs.Rules.{Every, every_rule}
use Rattle.laws.specs.Changed.{top_put, put_bit, clear_bit, inherit_bit, has_admit}
use Rattle.codec.specs.Codes.{code_of_room}
use Rattle.codec.specs.Columns.{named_name_of}
use Rattle.frame.specs.Conditions.{Inside, NamesIn, RightFits}

-- a state is within the record where its `top` is n and every set bit is one of the record's
within_made : {f : Shape} {S : State} → S.top ≡ f.n → ((z : Right) (w : ℕ) (x : Name) → has S z w x ≡ true → Inside f z w x) → Within f S
within_made t each = record { top = t; row = λ z w x h. (each z w x h).row; column = λ z w x h. (each z w x h).column; right = λ z w x h. (each z w x h).right }

within_inside : {f : Shape} {S : State} → Within f S → (z : Right) (w : ℕ) (x : Name) → has S z w x ≡ true → Inside f z w x
within_inside v z w x h = record { row = v.row z w x h; column = v.column z w x h; right = v.right z w x h }

-- setting and clearing one of the record's bits
pub within_put : (f : Shape) (y : Right) (r : ℕ) (c : Name) (v : Bool) (S : State) → Within f S → Inside f y r c → Within f (put y r c v S)
within_put f y r c v S k p =
    within_made (top_put y r c v S ∙ k.top)
    (λ z w x h. ⊎_elim (λ e. within_inside k z w x e) (λ e. rw (e.0, e.1, e.2) p) (put_bit y r c v S z w x h))

pub within_clear : (f : Shape) (gone : ℕ → Name → Bool) (S : State) → Within f S → Within f (clear gone S)
within_clear f gone S k = within_made k.top (λ z w x h. within_inside k z w x (clear_bit gone S z w x h).1)

pub within_inherit : (f : Shape) (i s : ℕ) (S : State) → Within f S → i < f.n → Within f (inherit i s S)
within_inherit f i s S k l =
    within_made k.top (λ z w x h. ⊎_elim (λ e. within_inside k z w x e) (λ e. gained z w x e.0 e.1 e.2) (inherit_bit i s S z w x h))
  where
    gained : (z : Right) (w : ℕ) (x : Name) → z ≡ Own → w ≡ i → S.owns s x ≡ true → Inside f z w x
    gained z w x own heir e =
        let from = within_inside k Own s x e in
        record { row = rw heir l; column = from.column; right = rw own from.right }

pub within_admit : (f : Shape) (s : ℕ) (S : State) → Within f S → s < f.n → Within f (admit s S)
within_admit f s S k l = within_made room (λ z w x h. within_inside k z w x (sym (has_admit s S z w x) ∙ h))
  where
    room : max S.top (suc s) ≡ f.n
    room = let e : S.top ≡ f.n = k.top in omega arith

-- The change that a command makes stays within the record. A cell has room for own and control: it has a byte at least.
pub within_change : (f : Shape) (S : State) (c : Command) (a : Act) → 1 ≤ f.width → Within f S → NamesIn f c → RightFits (bits_of f) a → Within f (change S c a)
within_change f S c (Transfer Own) b k m r =
    within_put f Own c.s c.o true (put Own c.i c.o false S) (within_put f Own c.i c.o false S k (record { row = m.i; column = m.o; right = r })) (record { row = m.s; column = m.o; right = r })
within_change f S c (Transfer Control) b k m r = k
within_change f S c (Transfer (Basic j g)) b k m r = within_put f (Basic j g) c.s c.o true S k (record { row = m.s; column = m.o; right = r })
within_change f S c (Grant y) b k m r = within_put f y c.s c.o true S k (record { row = m.s; column = m.o; right = r })
within_change f S c (Delete y) b k m r = within_put f y c.s c.o false S k (record { row = m.s; column = m.o; right = r })
within_change f S c CreateObject b k m r = within_put f Own c.i c.o true S k (record { row = m.i; column = m.o; right = omega arith })
within_change f S c DestroyObject b k m r = within_clear f (in_column c.o) S k
within_change f S c CreateSubject b k m r =
    let self : named f.n f.p (Subject c.s) ≡ true = lt-ltb c.s f.n m.s in
    let owned = within_put f Own c.i (Subject c.s) true (admit c.s S) (within_admit f c.s S k m.s) (record { row = m.i; column = self; right = omega arith }) in
    within_put f Control c.s (Subject c.s) true (put Own c.i (Subject c.s) true (admit c.s S)) owned (record { row = m.s; column = self; right = omega arith })
within_change f S c DestroySubject b k m r = within_clear f (in_cross c.s) (inherit c.i c.s S) (within_inherit f c.i c.s S k m.i)

-- the names of a command that fit are the record's
pub names_in : (f : Shape) (c : Fields) → names_fit f c ≡ true → NamesIn f (decode (raw_of f c))
names_in f c h =
    let i = ltb c.i f.n in
    let s = ltb c.s f.n in
    let o = ltb c.o (columns f) in
    let rows = and_left (i && s) o h in
    record {
      i = ltb-true c.i f.n (and_left i s rows);
      s = ltb-true c.s f.n (and_right i s rows);
      o = named_name_of f.n f.p c.o (ltb-true c.o (columns f) (and_right (i && s) o h));
    }

-- the right of a command whose k is below the number of basic rights has its bit in the record's cells
pub right_fits : (f : Shape) (code k : ℕ) → 1 ≤ f.width → cond (rule_of code k).k (ltb k (basics_of f)) (eqb k 0) ≡ true → RightFits (bits_of f) (rule_of code k).act
right_fits f code k b = every_rule fits code k table (λ j e. tt)
  where
    fits : ℕ → Rule → Type 0
    fits j r = cond r.k (ltb k (basics_of f)) (eqb k 0) ≡ true → RightFits (bits_of f) r.act

    basic : (g : Form) → ltb k (basics_of f) ≡ true → code_of (Basic k g) < bits_of f
    basic g e = code_of_room f.width k g (ltb-true k (basics_of f) e)

    table : Every fits (rules k)
    table =
        (basic Plain, (basic Starred, (omega arith, (basic Plain, (basic Starred, (omega arith, (omega arith, (basic Plain, (basic Starred, (omega arith, (omega arith, (omega arith, (omega arith, tt)))))))))))))
