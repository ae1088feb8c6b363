-- Commands of the parts of a leaking list, accepted: under plain hypotheses each is accepted and leaves the table's change.
use Rattle.std.specs.Prelude.{ℕ, ◌<◌, ◌≡◌, refl, Bool, true, false, cond, ◌&&◌, [], ◌∷◌, eqb}
use Rattle.std.proofs.Common.{arith, sym, ap, subst, eq-eqb, lt-ltb, ltb-true}
use Rattle.matrix.specs.declared.Name.{Name}
use Rattle.matrix.specs.declared.Name.TheVariants.{Subject}
use Rattle.matrix.specs.declared.Form.{Form}
use Rattle.matrix.specs.declared.Form.TheVariants.{Starred}
use Rattle.matrix.specs.declared.Right.{Right}
use Rattle.matrix.specs.declared.Right.TheVariants.{Own, Control, Basic}
use Rattle.matrix.specs.declared.Act.{Act}
use Rattle.matrix.specs.declared.Act.TheVariants.{Transfer, Grant}
use Rattle.matrix.specs.declared.Command.{Command}
use Rattle.matrix.specs.declared.Fields.{Fields}
use Rattle.matrix.specs.declared.Shape.{Shape}
use Rattle.matrix.specs.Names.{name_of, column_of, named}
use Rattle.matrix.specs.State.{State, exists, exists_name, put, clear}
use Rattle.matrix.specs.Owners.{walk, meets}
use Rattle.matrix.specs.Commands.{kind_of, known, rule_of, fields_fit, decode}
use Rattle.matrix.specs.Tests.{test, command_tests, kind_fits, other_controller, uncontrolled}
use Rattle.matrix.specs.Changes.{change, admit, inherit, in_cross}
use Rattle.matrix.specs.Step.{refusal_of, refusal, next}
use Rattle.matrix.specs.Shape.{basics_of, columns}
use Rattle.matrix.specs.Valid.{Valid}
use Rattle.matrix.specs.Calls.{raw_of, names_fit, refusal_on, next_on}
use Rattle.laws.specs.Tests.{and_both, fails_not}
use Rattle.laws.specs.Passed.{all_passed}
use Rattle.codec.specs.Columns.{column_of_name_of, name_of_column_of, named_below}
use Rattle.kept.specs.Allowed.{Allowed}
use Rattle.route.specs.Parts.{fields, destroys, creates, creates_name, gives, passes, basic_number}
use Rattle.route.specs.RunsTo.{Accepts}

-- what the fields' code does; the command that they are decoded to, where their column is that of name x; and whether they fit the code
abbrev pub act_of : Fields → Act
act_of c = (rule_of c.code c.k).act

abbrev pub meaning : Fields → Name → Command
meaning c x = record { i = c.i; s = c.s; o = x; act = act_of c }

abbrev pub fitting : Shape → Fields → ℕ → Bool
fitting f c column = fields_fit (basics_of f) (rule_of c.code c.k) c.s column c.k

-- a command that passes its tests is not refused
pub allowed_accepted : (S : State) (c : Command) → Allowed S c c.act → refusal_of S c ≡ 0
unfolding refusal_of
allowed_accepted S c a =
    all_passed (command_tests S c)
    (a.initiator, (a.kind, (a.there, (a.absent, (a.entitled, (a.set, (a.unmet, (a.alone, tt))))))))

accepts_column : (f : Shape) (S : State) (c : Fields) → c.i < f.n → c.s < f.n → c.o < columns f → known c.code ≡ true
    → fitting f c c.o ≡ true → Allowed S (meaning c (name_of f.n c.o)) (act_of c)
    → Accepts f S c (change S (meaning c (name_of f.n c.o)) (act_of c))
unfolding refusal_on next_on refusal next
accepts_column f S c li ls lo code fit a =
    let decoded = decode (raw_of f c) in
    let number = refusal_of S decoded in
    let column = column_of (name_of f.n c.o) in
    let rows = and_both (lt-ltb c.i f.n li) (lt-ltb c.s f.n ls) in
    let names : names_fit f c ≡ true = and_both rows (lt-ltb c.o (columns f) lo) in
    let used : fitting f c column ≡ true = subst (λ (o : ℕ). fitting f c o ≡ true) (sym (column_of_name_of f.n c.o)) fit in
    let none : refusal (basics_of f) (names_fit f c) S (raw_of f c) ≡ 0 =
    all_passed (test 6 (known c.code) ∷ test 7 (names_fit f c && fitting f c column) ∷ test number (eqb number 0) ∷ [])
    (code, (and_both names used, (eq-eqb number 0 (allowed_accepted S decoded a), tt))) in
    record { accepted = none; leaves = ap (λ (m : ℕ). cond (eqb m 0) (change S decoded decoded.act) S) none }

-- A command whose code is known, whose names are the record's and whose fields fit is accepted where it passes its tests, and makes its
-- change.
pub accepts : (f : Shape) (S : State) (c : Fields) (x : Name) → name_of f.n c.o ≡ x → c.i < f.n → c.s < f.n → c.o < columns f
    → known c.code ≡ true → fitting f c c.o ≡ true → Allowed S (meaning c x) (act_of c)
    → Accepts f S c (change S (meaning c x) (act_of c))
accepts f S c x e li ls lo code fit =
    subst (λ (y : Name). Allowed S (meaning c y) (act_of c) → Accepts f S c (change S (meaning c y) (act_of c))) e
    (accepts_column f S c li ls lo code fit)

-- v destroys a subject w that it owns
pub destroy_accepted : {S : State} (f : Shape) (v w : ℕ) → Valid S → v < f.n → w < f.n → S.owns v (Subject w) ≡ true
    → Accepts f S (destroys v w) (clear (in_cross w) (inherit v w S))
destroy_accepted {S} f v w h lv lw own =
    accepts f S (destroys v w) (name_of f.n 0) refl lv lw (omega arith) refl refl
    (record {
      initiator = h.row Own v (Subject w) own;
      kind = refl;
      there = h.column Own v (Subject w) own;
      absent = refl;
      entitled = own;
      set = refl;
      unmet = refl;
      alone = refl;
    })

-- the state after v created a name
abbrev pub created : ℕ → Name → State → State
created v (Subject w) S = put Control w (Subject w) true (put Own v (Subject w) true (admit w S))
created v (Name.Plain o) S = put Own v (Name.Plain o) true S

-- v creates a name of the record that is absent
pub create_accepted : {S : State} (f : Shape) (v : ℕ) (x : Name) → v < f.n → named f.n f.p x ≡ true → exists S v ≡ true
    → exists_name S x ≡ false → Accepts f S (creates_name v x) (created v x S)
create_accepted {S} f v (Subject w) lv inside ev absent =
    accepts f S (creates v w) (name_of f.n 0) refl lv (ltb-true w f.n inside) (omega arith) refl refl
    (record { initiator = ev; kind = refl; there = refl; absent = fails_not absent; entitled = refl; set = refl; unmet = refl; alone = refl })
create_accepted {S} f v (Name.Plain o) lv inside ev absent =
    accepts f S (creates_name v (Name.Plain o)) (Name.Plain o) (name_of_column_of f.n f.p (Name.Plain o) inside) lv (omega arith)
    (named_below f.n f.p (Name.Plain o) inside) refl refl
    (record { initiator = ev; kind = refl; there = refl; absent = fails_not absent; entitled = refl; set = refl; unmet = refl; alone = refl })

-- A command of v on s and a name o of the record.
over : {S : State} (f : Shape) (v s : ℕ) (o : Name) (code k : ℕ) → v < f.n → s < f.n → named f.n f.p o ≡ true → known code ≡ true
    → fitting f (fields code v s (column_of o) k) (column_of o) ≡ true
    → Allowed S (meaning (fields code v s (column_of o) k) o) (rule_of code k).act
    → Accepts f S (fields code v s (column_of o) k) (change S (meaning (fields code v s (column_of o) k) o) (rule_of code k).act)
over {S} f v s o code k lv ls inside =
    accepts f S (fields code v s (column_of o) k) o (name_of_column_of f.n f.p o inside) lv ls (named_below f.n f.p o inside)

-- What else an owner needs to give s the right x over o: the walk from s does not meet a subject o whose ownership is given, and nobody
-- else controls o.
abbrev pub Givable : State → ℕ → Name → Right → Type 0
Givable S s (Subject o) Own = meets (walk S s (Subject o)) ≡ false
Givable S s (Name.Plain o) Own = Unit
Givable S s (Subject o) Control = other_controller S (Subject o) ≡ false
Givable S s (Name.Plain o) Control = ⊥
Givable S s o (Basic k g) = Unit

-- the state after v, the owner of o, gave s the right x over o
abbrev pub given : ℕ → ℕ → Name → Right → State → State
given v s (Subject o) Own S = put Own s (Subject o) true (put Own v (Subject o) false S)
given v s (Name.Plain o) Own S = put Own s (Name.Plain o) true S
given v s (Subject o) Control S = put Control s (Subject o) true S
given v s (Name.Plain o) Control S = put Control s (Name.Plain o) true S
given v s o (Basic k g) S = put (Basic k g) s o true S

-- the tests of a grant, by an owner, and of a transfer of a basic right, by one who has it starred
grant_allowed : {S : State} (c : Command) (y : Right) → Valid S → exists S c.s ≡ true → S.owns c.i c.o ≡ true
    → kind_fits (kind_of (Grant y)) c.o ≡ true → uncontrolled S c (Grant y) ≡ true → Allowed S c (Grant y)
grant_allowed c y h es own fit alone =
    record {
      initiator = h.row Own c.i c.o own;
      kind = fit;
      there = and_both es (h.column Own c.i c.o own);
      absent = refl;
      entitled = own;
      set = refl;
      unmet = refl;
      alone = alone;
    }

pass_allowed : {S : State} (c : Command) (k : ℕ) (g : Form) → Valid S → exists S c.s ≡ true → S.basic k Starred c.i c.o ≡ true
    → Allowed S c (Transfer (Basic k g))
pass_allowed c k g h es star =
    record {
      initiator = h.row (Basic k Starred) c.i c.o star;
      kind = refl;
      there = and_both es (h.column (Basic k Starred) c.i c.o star);
      absent = refl;
      entitled = star;
      set = refl;
      unmet = refl;
      alone = refl;
    }

-- an owner v of o gives an existing s the right x over o
pub give_accepted : {S : State} (f : Shape) (v s : ℕ) (o : Name) (x : Right) → Valid S → v < f.n → s < f.n → named f.n f.p o ≡ true
    → basic_number x < basics_of f → exists S s ≡ true → S.owns v o ≡ true → Givable S s o x → Accepts f S (gives v s o x) (given v s o x S)
give_accepted f v s (Subject o) Own h lv ls inside lk es own apart =
    over f v s (Subject o) 3 0 lv ls inside refl refl
    (record {
      initiator = h.row Own v (Subject o) own;
      kind = refl;
      there = and_both es (h.column Own v (Subject o) own);
      absent = refl;
      entitled = own;
      set = refl;
      unmet = fails_not apart;
      alone = refl;
    })
give_accepted f v s (Name.Plain o) Own h lv ls inside lk es own any =
    over f v s (Name.Plain o) 7 0 lv ls inside refl refl (grant_allowed _ Own h es own refl refl)
give_accepted f v s (Subject o) Control h lv ls inside lk es own alone =
    over f v s (Subject o) 6 0 lv ls inside refl refl (grant_allowed _ Control h es own refl (fails_not alone))
give_accepted f v s (Name.Plain o) Control h lv ls inside lk es own never = absurd never
give_accepted f v s (Subject o) (Basic k Form.Plain) h lv ls inside lk es own any =
    over f v s (Subject o) 4 k lv ls inside refl (lt-ltb k (basics_of f) lk) (grant_allowed _ (Basic k Form.Plain) h es own refl refl)
give_accepted f v s (Name.Plain o) (Basic k Form.Plain) h lv ls inside lk es own any =
    over f v s (Name.Plain o) 4 k lv ls inside refl (lt-ltb k (basics_of f) lk) (grant_allowed _ (Basic k Form.Plain) h es own refl refl)
give_accepted f v s (Subject o) (Basic k Starred) h lv ls inside lk es own any =
    over f v s (Subject o) 5 k lv ls inside refl (lt-ltb k (basics_of f) lk) (grant_allowed _ (Basic k Starred) h es own refl refl)
give_accepted f v s (Name.Plain o) (Basic k Starred) h lv ls inside lk es own any =
    over f v s (Name.Plain o) 5 k lv ls inside refl (lt-ltb k (basics_of f) lk) (grant_allowed _ (Basic k Starred) h es own refl refl)

-- i, who has the starred right k over o, passes an existing s the right k in a form
pub pass_accepted : {S : State} (f : Shape) (i s : ℕ) (o : Name) (k : ℕ) (g : Form) → Valid S → i < f.n → s < f.n → named f.n f.p o ≡ true
    → k < basics_of f → exists S s ≡ true → S.basic k Starred i o ≡ true → Accepts f S (passes i s o k g) (put (Basic k g) s o true S)
pass_accepted f i s o k Form.Plain h li ls inside lk es star =
    over f i s o 1 k li ls inside refl (lt-ltb k (basics_of f) lk) (pass_allowed _ k Form.Plain h es star)
pass_accepted f i s o k Starred h li ls inside lk es star =
    over f i s o 2 k li ls inside refl (lt-ltb k (basics_of f) lk) (pass_allowed _ k Starred h es star)
