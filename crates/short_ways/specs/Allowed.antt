-- Commands over a basic right that are accepted on a valid record because i has a right over o itself.
use Rattle.std.specs.Prelude.{ℕ, ◌+◌, ◌≤◌, ◌<◌, ◌≡◌, refl, Bool, true, false, cond, ◌&&◌, List}
use Rattle.std.proofs.Common.{arith, sym, ◌∙◌, ap, true≢false, le-leb, lt-ltb}
use Rattle.std.proofs.lemmas.Bool.{false≢true}
use Rattle.matrix.specs.declared.Name.{Name}
use Rattle.matrix.specs.declared.Form.{Form}
use Rattle.matrix.specs.declared.Form.TheVariants.{Plain, Starred}
use Rattle.matrix.specs.declared.Right.{Right}
use Rattle.matrix.specs.declared.Right.TheVariants.{Own, Basic}
use Rattle.matrix.specs.declared.Act.{Act}
use Rattle.matrix.specs.declared.Act.TheVariants.{Transfer, Grant, Delete}
use Rattle.matrix.specs.declared.Rule.{Rule}
use Rattle.matrix.specs.declared.Fields.{Fields}
use Rattle.matrix.specs.Answers.{Accepted}
use Rattle.matrix.specs.declared.Shape.{Shape}
use Rattle.matrix.specs.Names.{name_of}
use Rattle.matrix.specs.State.{State, has, exists, exists_name, put}
use Rattle.matrix.specs.Commands.{rule_of, fields_fit}
use Rattle.matrix.specs.Tests.{command_tests}
use Rattle.matrix.specs.Changes.{change}
use Rattle.matrix.specs.Step.{walk_links}
use Rattle.matrix.specs.Shape.{basics_of}
use Rattle.matrix.specs.Reading.{state_of}
use Rattle.matrix.specs.Calls.{names_fit}
use Rattle.matrix.specs.Valid.{Valid}
use Rattle.laws.specs.Tests.{and_both, or_left}
use Rattle.laws.specs.Passed.{Passed}
use Rattle.cells.specs.Station.{Station}
use Rattle.decoding.specs.Decoded.{form_from}
use Rattle.decoding.specs.Arms.{basic_rule, of_pair}
use Rattle.bits.specs.Became.{Became}
use Rattle.bits.specs.Steps.{became_as}
use Rattle.short_ways.specs.Answered.{Answered}
use Rattle.short_ways.specs.Ready.{doing}
use Rattle.short_ways.specs.Accepting.{answered_accepted}

-- where t holds, A; where it doesn't, the bytes stay
pub record Where (t : Bool) (b b' : List ℕ) (A : Type 0) : Type 0 where
  pub holds : t ≡ true → A
  pub stays : t ≡ false → b' ≡ b

pub left_alone : {b : List ℕ} {A : Type 0} → Where false b b A
left_alone = record { holds = λ h. absurd (false≢true h); stays = λ h. refl }

pub made : {b b' : List ℕ} {A : Type 0} → A → Where true b b' A
made a = record { holds = λ h. a; stays = λ h. absurd (true≢false h) }

pub where_then : {t : Bool} {b b' : List ℕ} {A B : Type 0} → Where t b b' A → (A → B) → Where t b b' B
where_then w f = record { holds = λ h. f (w.holds h); stays = w.stays }

-- s exists where it is given the right y over o (on), and has its bit where the right is taken from it
abbrev pub subject_fits : State → Right → ℕ → Name → Bool → Bool
subject_fits S y s o on = cond on (exists S s) (has S y s o)

-- s fits, i has the right y over o, and the command's basic right in the form f is given to s over o, or taken from it
pub record Allowed (b b' : List ℕ) (n : ℕ) (c : Fields) (y : Right) (f : Form) (on : Bool) : Type 0 where
  pub fits : subject_fits (state_of b) (Basic c.k f) c.s (name_of n c.o) on ≡ true
  pub held : has (state_of b) y c.i (name_of n c.o) ≡ true
  pub became : Became b b' (put (Basic c.k f) c.s (name_of n c.o) on (state_of b))

-- a test of the name x, asked with the answer t, of a name z that is x
pub at_name : (f : Name → Bool) {x z : Name} {t u : Bool} → x ≡ z → t ≡ f x → t ≡ u → f z ≡ u
at_name f e g h = ap f (sym e) ∙ sym g ∙ h

module _ {b : List ℕ} {f : Shape} (c : Fields) (station : Station b f) (v : Valid (state_of b)) (names : names_fit f c ≡ true) (right : c.k < basics_of f) where
  abbrev S : State
  S = state_of b

  -- the act of the code `first`, or of the next one
  abbrev acting : (Right → Act) → ℕ → Act
  acting act first = act (Basic c.k (form_from c.code first))

  -- a subject that fits exists
  fits_exists : (y : Right) (s : ℕ) (o : Name) (on : Bool) → subject_fits S y s o on ≡ true → exists S s ≡ true
  fits_exists y s o true h = h
  fits_exists y s o false h = v.row y s o h

  -- it is accepted where the tests are passed as i, s and o exist
  answered : (act : Right → Act) (first : ℕ) {y : Right} {on : Bool} {b' : List ℕ}
      → rule_of c.code c.k ≡ basic_rule act c.k (form_from c.code first)
      → 1 ≤ c.code → c.code ≤ 13
      → (exists S c.i ≡ true → (exists S c.s && exists_name S (name_of f.n c.o)) ≡ true → Passed (command_tests S (doing f.n c (acting act first))))
      → walk_links S (doing f.n c (acting act first)) (acting act first) ≡ 0
      → put (Basic c.k (form_from c.code first)) c.s (name_of f.n c.o) on S ≡ change S (doing f.n c (acting act first)) (acting act first)
      → Allowed b b' f.n c y (form_from c.code first) on → Answered b b' c (Accepted 0)
  answered act first {y} {on} row low high passed none changed a =
      let i : exists S c.i ≡ true = v.row y c.i (name_of f.n c.o) a.held in
      let o : exists_name S (name_of f.n c.o) ≡ true = v.column y c.i (name_of f.n c.o) a.held in
      answered_accepted c station names (acting act first) (ap (λ (r : Rule). r.act) row) (and_both (le-leb 1 c.code low) (le-leb c.code 13 high))
      (ap (λ (r : Rule). fields_fit (basics_of f) r c.s c.o c.k) row ∙ lt-ltb c.k (basics_of f) right) (passed i (and_both (fits_exists (Basic c.k (form_from c.code first)) c.s (name_of f.n c.o) on a.fits) o)) none (became_as a.became changed)

  row_of : (act : Right → Act) (first : ℕ) → first ≤ c.code → c.code < first + 2 → basic_rule act c.k Plain ≡ rule_of first c.k
      → basic_rule act c.k Starred ≡ rule_of (first + 1) c.k → rule_of c.code c.k ≡ basic_rule act c.k (form_from c.code first)
  row_of act first l u g h = sym (of_pair (basic_rule act c.k) (λ (m : ℕ). rule_of m c.k) first c.code l u g h)

  pub answered_transfer : {b' : List ℕ} → 1 ≤ c.code → c.code < 3 → Allowed b b' f.n c (Basic c.k Starred) (form_from c.code 1) true → Answered b b' c (Accepted 0)
  answered_transfer l u a =
      answered Transfer 1 (row_of Transfer 1 l u refl refl) (omega arith) (omega arith) (λ i o. (i, (refl, (o, (refl, (a.held, (refl, (refl, (refl, tt))))))))) refl refl a

  pub answered_grant : {b' : List ℕ} → 4 ≤ c.code → c.code < 6 → Allowed b b' f.n c Own (form_from c.code 4) true → Answered b b' c (Accepted 0)
  answered_grant l u a =
      answered Grant 4 (row_of Grant 4 l u refl refl) (omega arith) (omega arith) (λ i o. (i, (refl, (o, (refl, (a.held, (refl, (refl, (refl, tt))))))))) refl refl a

  pub answered_delete : {b' : List ℕ} → 8 ≤ c.code → c.code < 10 → Allowed b b' f.n c Own (form_from c.code 8) false → Answered b b' c (Accepted 0)
  answered_delete l u a =
      answered Delete 8 (row_of Delete 8 l u refl refl) (omega arith) (omega arith) (λ i o. (i, (refl, (o, (refl, (or_left _ a.held, (a.fits, (refl, (refl, tt))))))))) refl refl a
