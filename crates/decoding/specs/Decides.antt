-- Decoding, step by step.
use Rattle.std.specs.Prelude.{ℕ, ◌≡◌, Bool, cond, ◌||◌, eqb, Option, Some, None, Ok, Err}
use Rattle.matrix.specs.declared.Refusal.{Refusal}
use Rattle.std.proofs.Common.{arith, sym, ◌∙◌, ap₂}
use Rattle.std.proofs.Math.Path.{refl, ap}
use Rattle.std.proofs.Math.Bool.{true, false}
use Rattle.matrix.specs.declared.Name.{Name}
use Rattle.matrix.specs.declared.Rule.{Rule}
use Rattle.matrix.specs.declared.Fields.{Fields}
use Rattle.matrix.specs.declared.Shape.{Shape}
use Rattle.matrix.specs.Names.{name_of}
use Rattle.matrix.specs.Commands.{known, rule_of, fields_fit}
use Rattle.matrix.specs.Shape.{basics_of}
use Rattle.matrix.specs.Calls.{names_fit}
use Rattle.decoding.specs.Decoded.{ruled_of, basic_fits, decoded_of}

-- the row that was found is the table's
pub record RowFound (c : Fields) (r : Rule) : Type 0 where
  pub known_code : known c.code ≡ true
  pub row : r ≡ rule_of c.code c.k

module _ (c : Fields) where
  row_found : (t : Bool) {r : Rule} → known c.code ≡ t → Some r ≡ cond t (Some (rule_of c.code c.k)) None → RowFound c r
  row_found true {r} e h = record { known_code = e; row = cc }
  row_found false {r} e h = let z : ◌≡◌ {A = ℕ} 0 1 = cc in absurd (omega arith)

  pub found : {d : Option Rule} {r : Rule} → d ≡ ruled_of c.code c.k → d ≡ Some r → RowFound c r
  unfolding ruled_of
  found e f = row_found (known c.code) refl (sym f ∙ e)

  none_found : (t : Bool) → known c.code ≡ t → None ≡ cond t (Some (rule_of c.code c.k)) None → known c.code ≡ false
  none_found true e h = let z : ◌≡◌ {A = ℕ} 0 1 = cc in absurd (omega arith)
  none_found false e h = e

  module _ (f : Shape) where
    pub refused_6 : {d : Option Rule} → d ≡ ruled_of c.code c.k → d ≡ None → Err Refusal.Code ≡ decoded_of f c
    unfolding ruled_of decoded_of
    refused_6 e i = let z : known c.code ≡ false = none_found (known c.code) refl (sym i ∙ e) in rw z refl

    pub names_7 : {r : Rule} → RowFound c r → names_fit f c ≡ false → Err Refusal.Bounds ≡ decoded_of f c
    unfolding decoded_of
    names_7 w h = let k : known c.code ≡ true = w.known_code in rw (k, h) refl

    -- the fields against the row, for m basic rights
    fits_table : {r : Rule} {m : ℕ} {t : Bool} → RowFound c r → m ≡ basics_of f → fields_fit m r c.s c.o c.k ≡ t → fields_fit (basics_of f) (rule_of c.code c.k) c.s c.o c.k ≡ t
    fits_table w b e = sym (ap₂ (λ (m : ℕ) (r : Rule). fields_fit m r c.s c.o c.k) b w.row) ∙ e

    pub fields_7 : {r : Rule} {m : ℕ} → RowFound c r → names_fit f c ≡ true → m ≡ basics_of f → fields_fit m r c.s c.o c.k ≡ false → Err Refusal.Bounds ≡ decoded_of f c
    unfolding decoded_of
    fields_7 w h b e =
        let k : known c.code ≡ true = w.known_code in
        let g : fields_fit (basics_of f) (rule_of c.code c.k) c.s c.o c.k ≡ false = fits_table w b e in
        rw (k, h, g) refl

    pub ready : {r : Rule} {m : ℕ} {x : Name} → RowFound c r → names_fit f c ≡ true → m ≡ basics_of f → fields_fit m r c.s c.o c.k ≡ true → x ≡ name_of f.n c.o → Ok (record { command = record { i = c.i; s = c.s; o = x; act = r.act }; kind = r.kind }) ≡ decoded_of f c
    unfolding decoded_of
    ready {r} {x = x} w h b e i =
        let k : known c.code ≡ true = w.known_code in
        let g : fields_fit (basics_of f) (rule_of c.code c.k) c.s c.o c.k ≡ true = fits_table w b e in
        rw (k, h, g)
        (ap (λ (x : Name). Ok (record { command = record { i = c.i; s = c.s; o = x; act = r.act }; kind = r.kind })) i
        ∙ ap (λ (r : Rule). Ok (record { command = record { i = c.i; s = c.s; o = name_of f.n c.o; act = r.act }; kind = r.kind })) w.row)
