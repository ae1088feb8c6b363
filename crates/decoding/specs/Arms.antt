-- The arms of the match on a code: each is a row, or two rows, of the table of commands.
use Rattle.std.specs.Prelude.{ℕ, ◌+◌, ◌≤◌, ◌<◌, ◌≡◌, refl, Bool, true, false, cond, eqb, leb, Some, None}
use Rattle.std.proofs.Common.{arith, sym, ◌∙◌, ap, ⊎_elim, eqb-true, le-leb}
use Rattle.std.proofs.lemmas.Bool.{eqb-false, lt-leb}
use Rattle.matrix.specs.declared.Form.{Form}
use Rattle.matrix.specs.declared.Form.TheVariants.{Plain, Starred}
use Rattle.matrix.specs.declared.Right.{Right}
use Rattle.matrix.specs.declared.Right.TheVariants.{Basic}
use Rattle.matrix.specs.declared.Act.{Act}
use Rattle.matrix.specs.declared.Kind.TheVariants.{AnyName}
use Rattle.matrix.specs.declared.Rule.{Rule}
use Rattle.laws.specs.Tests.{way}
use Rattle.decoding.specs.Decoded.{form_from, over_basic, ruled_of}

-- one code
pub one_row : (j code k : ℕ) {r table : Rule} → code ≡ j → r ≡ table → Some table ≡ ruled_of j k → Some r ≡ ruled_of code k
one_row j code k e q h = ap (λ (r : Rule). Some r) q ∙ h ∙ ap (λ (m : ℕ). ruled_of m k) (sym e)

-- a basic right of the form that the code says
abbrev pub basic_rule : (Right → Act) → ℕ → Form → Rule
basic_rule act k f = over_basic (act (Basic k f))

-- what holds of the plain form and the first of two codes, and of the starred form and the second
pub of_pair : {A : Type 0} (of_form : Form → A) (of_code : ℕ → A) (first code : ℕ) → first ≤ code → code < first + 2 → of_form Plain ≡ of_code first → of_form Starred ≡ of_code (first + 1) → of_form (form_from code first) ≡ of_code code
of_pair of_form of_code first code l u g h =
    ⊎_elim
    (λ (t : eqb code first ≡ true). ap (λ (b : Bool). of_form (cond b Plain Starred)) t ∙ g ∙ ap of_code (sym (eqb-true code first t)))
    (λ (t : eqb code first ≡ false).
    let ne : code ≡ first → ⊥ = eqb-false code first t in
    let q : first + 1 ≡ code = omega arith in
    ap (λ (b : Bool). of_form (cond b Plain Starred)) t ∙ h ∙ ap of_code q)
    (way (eqb code first))

-- two codes, the first plain and the second starred
pub two_rows : (act : Right → Act) (first code k : ℕ) {f : Form} {r : Rule} → first ≤ code → code < first + 2 → f ≡ form_from code first → r ≡ basic_rule act k f → Some (basic_rule act k Plain) ≡ ruled_of first k → Some (basic_rule act k Starred) ≡ ruled_of (first + 1) k → Some r ≡ ruled_of code k
two_rows act first code k l u e q g h =
    ap (λ (r : Rule). Some r) q
    ∙ ap (λ (f : Form). Some (basic_rule act k f)) e
    ∙ of_pair (λ (f : Form). Some (basic_rule act k f)) (λ (m : ℕ). ruled_of m k) first code l u g h

-- no code
pub below_codes : (code k : ℕ) → code < 1 → None ≡ ruled_of code k
unfolding ruled_of
below_codes code k h = rw (lt-leb 1 code h) refl

pub above_codes : (code k : ℕ) → 14 ≤ code → None ≡ ruled_of code k
unfolding ruled_of
above_codes code k h = let l : leb 1 code ≡ true = le-leb 1 code (omega arith) in let u : leb code 13 ≡ false = lt-leb code 13 h in rw (l, u) refl
