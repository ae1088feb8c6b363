-- A decoded command: it is what the definition decodes, on names and rights of the record.
use Rattle.std.specs.Prelude.{ℕ, ◌<◌, ◌≡◌, Bool, true, false, cond, ◌&&◌, ltb, Result, Ok, Err}
use Rattle.std.proofs.Common.{arith, sym, ◌∙◌, ap, subst, ltb-true}
use Rattle.std.proofs.Math.Path.{refl}
use Rattle.matrix.specs.declared.Name.{Name}
use Rattle.matrix.specs.declared.Kind.{Kind}
use Rattle.matrix.specs.declared.Fields.{Fields}
use Rattle.matrix.specs.declared.Act.{Act}
use Rattle.matrix.specs.declared.Command.{Command}
use Rattle.matrix.specs.declared.Refusal.{Refusal}
use Rattle.matrix.specs.declared.Shape.{Shape}
use Rattle.matrix.specs.Names.{name_of, named}
use Rattle.matrix.specs.Refusals.{refusal_number}
use Rattle.matrix.specs.Commands.{kind_of, known, rule_of, fields_fit}
use Rattle.matrix.specs.Shape.{columns, basics_of}
use Rattle.matrix.specs.Calls.{names_fit}
use Rattle.laws.specs.Tests.{and_left, and_right}
use Rattle.codec.specs.Columns.{named_name_of}
use Rattle.decoding.specs.declared.Decoded.{Decoded}
use Rattle.decoding.specs.Decoded.{decoded_of}
use Rattle.short_ways.specs.Rows.{row_kind}

-- the code is known, and the names and fields fit
pub record Fits (f : Shape) (c : Fields) : Type 0 where
  pub code : known c.code ≡ true
  pub names : names_fit f c ≡ true
  pub fields : fields_fit (basics_of f) (rule_of c.code c.k) c.s c.o c.k ≡ true

-- names that fit are the record's
pub row_i : (f : Shape) (c : Fields) → names_fit f c ≡ true → c.i < f.n
row_i f c h = ltb-true c.i f.n (and_left (ltb c.i f.n) (ltb c.s f.n) (and_left (ltb c.i f.n && ltb c.s f.n) (ltb c.o (columns f)) h))

pub row_s : (f : Shape) (c : Fields) → names_fit f c ≡ true → c.s < f.n
row_s f c h = ltb-true c.s f.n (and_right (ltb c.i f.n) (ltb c.s f.n) (and_left (ltb c.i f.n && ltb c.s f.n) (ltb c.o (columns f)) h))

pub column_o : (f : Shape) (c : Fields) → names_fit f c ≡ true → c.o < columns f
column_o f c h = ltb-true c.o (columns f) (and_right (ltb c.i f.n && ltb c.s f.n) (ltb c.o (columns f)) h)

pub name_o : (f : Shape) (c : Fields) → names_fit f c ≡ true → named f.n f.p (name_of f.n c.o) ≡ true
name_o f c h = named_name_of f.n f.p c.o (column_o f c h)

-- a name that is theirs
pub name_is : (f : Shape) (c : Fields) {x : Name} → x ≡ name_of f.n c.o → names_fit f c ≡ true → named f.n f.p x ≡ true
name_is f c e h = subst (λ (x : Name). named f.n f.p x ≡ true) (sym e) (name_o f c h)

-- the command of the fields that does `act`, and the one that they are decoded to
abbrev pub doing : ℕ → Fields → Act → Command
doing n c act = record { i = c.i; s = c.s; o = name_of n c.o; act = act }

abbrev pub command_of : ℕ → Fields → Command
command_of n c = doing n c (rule_of c.code c.k).act

-- what decoding answered
pub record DecodedTo (f : Shape) (c : Fields) (d : Command) (kind : Kind) : Type 0 where
  pub fits : Fits f c
  pub command : d ≡ command_of f.n c
  pub kind_needed : kind ≡ kind_of d.act

-- whether test 7 is passed
abbrev pub fits_all : Shape → Fields → Bool
fits_all f c = names_fit f c && fields_fit (basics_of f) (rule_of c.code c.k) c.s c.o c.k

-- refused by number m: 6 for an unknown code, 7 for names or fields that do not fit
pub record RefusedBy (f : Shape) (c : Fields) (m : ℕ) : Type 0 where
  pub number : m ≡ cond (known c.code) 7 6
  pub unfit : (known c.code && fits_all f c) ≡ false

module _ (f : Shape) (c : Fields) where
  -- the command of the fields with its row's kind
  abbrev row_decoded : Decoded
  row_decoded = record { command = command_of f.n c; kind = (rule_of c.code c.k).kind }

  is_ready : (t u : Bool) {x : Decoded} → known c.code ≡ t → fits_all f c ≡ u → Ok x ≡ cond t (cond u (Ok row_decoded) (Err Refusal.Bounds)) (Err Refusal.Code) → DecodedTo f c x.command x.kind
  is_ready true true {x} e i h =
      let q : x ≡ row_decoded = cc in
      let d : x.command ≡ command_of f.n c = ap (λ (x : Decoded). x.command) q in
      record {
        fits = record { code = e; names = and_left (names_fit f c) _ i; fields = and_right (names_fit f c) _ i };
        command = d;
        kind_needed = ap (λ (x : Decoded). x.kind) q ∙ row_kind c.code c.k ∙ ap (λ (d : Command). kind_of d.act) (sym d);
      }
  is_ready true false e i h = cc
  is_ready false u e i h = cc

  pub decoded_to : {r : Result Decoded Refusal} {x : Decoded} → r ≡ decoded_of f c → r ≡ Ok x → DecodedTo f c x.command x.kind
  unfolding decoded_of
  decoded_to e i = is_ready (known c.code) (fits_all f c) refl refl (sym i ∙ e)

  is_refused : (t u : Bool) {r : Refusal} → known c.code ≡ t → fits_all f c ≡ u → Err r ≡ cond t (cond u (Ok row_decoded) (Err Refusal.Bounds)) (Err Refusal.Code) → RefusedBy f c (refusal_number r)
  is_refused true true e i h = cc
  is_refused true false {r} e i h = let q : r ≡ Refusal.Bounds = cc in record { number = rw e (ap refusal_number q); unfit = rw (e, i) refl }
  is_refused false u {r} e i h = let q : r ≡ Refusal.Code = cc in record { number = rw e (ap refusal_number q); unfit = rw e refl }

  pub refused_by : {r : Result Decoded Refusal} {x : Refusal} → r ≡ decoded_of f c → r ≡ Err x → RefusedBy f c (refusal_number x)
  unfolding decoded_of
  refused_by e i = is_refused (known c.code) (fits_all f c) refl refl (sym i ∙ e)
