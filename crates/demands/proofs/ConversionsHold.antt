-- The two conversions are as claimed.
use Rattle.std.specs.Prelude.{ℕ, ◌+◌, ◌-◌, ◌*◌, ◌≤◌, ◌<◌, ◌≡◌, Bool, cond, not, length, take, drop}
use Rattle.std.proofs.Common.{mul-le-mul, sym, ◌∙◌, ap₂, inl, inr, length-append, length-drop, take_at, drop_at}
use native.Mathlib.Omega.{arith}
use Rattle.std.proofs.Math.Path.{refl, ap, subst}
use Rattle.std.proofs.Math.Logic.{◌≢◌, ⊎_elim}
use Rattle.std.proofs.Math.Bool.{true, false}
use mathlib.Core.List.{List, [], ◌∷◌, ◌++◌}
use Rattle.std.proofs.Math.Dec.{eqb, leb}
use borrow.Author.Tests.{eqb-true, eqb-false, eq-eqb, ne_eqb, leb-true, le-leb, not-true}
use Rattle.matrix.specs.declared.Numbers.{Numbers}
use Rattle.matrix.specs.declared.Shape.{Shape}
use Rattle.matrix.specs.Numbers.{numbers}
use Rattle.matrix.specs.Tests.{Test, test, first_failed}
use Rattle.matrix.specs.Shape.{limits, most_subjects, most_plain, known_version, width_of, shape_of, basics_of, size_of}
use Rattle.matrix.specs.Shaped.{Octets}
use Rattle.matrix.specs.Reading.{Content, state_of, content, content_of, bytes_of}
use Rattle.matrix.specs.Record.{record_refusal}
use Rattle.matrix.specs.Calls.{valid_answer}
use Rattle.matrix.specs.Converting.{in_version, basic_from, convert_refusal, converted, convert_result, convert_output}
use Rattle.laws.specs.Tests.{way, fails_not}
use Rattle.laws.specs.Passed.{none_failed, all_passed}
use Rattle.laws.specs.Basics.{basic_same}
use Rattle.codec.specs.ShapeRight.{TwoOrFour}
use Rattle.codec.proofs.ShapeRight.{widths}
use Rattle.codec.proofs.Written.{length_write}
use Rattle.codec.specs.RoundTrip.{within_read, read_write}
use Rattle.codec.specs.InVersion.{own_version, none_without_room}
use Rattle.codec.proofs.InVersion.{right_version, within_version}
use Rattle.owners.specs.Read.{record_shaped}
use Rattle.demands.specs.First.{condition, Among}
use Rattle.demands.specs.FirstLaws.{numbered_among, none_both}
use Rattle.demands.specs.Printed.{record_conditions, record_bytes, version1_conditions, version2_conditions}
use Rattle.demands.proofs.Refusals.{record_numbered, version1_numbered, version2_numbered}
use Rattle.demands.specs.Records.{passes, valid_so, Sound, sound_record, content_read, bytes_pass, bytes_octets}
use Rattle.demands.specs.Conversions.{refusal_to, value_to, record_to, NewRecord, Returned, enough_output, Conversions}

-- ---- the tests in turn

-- a conversion that is not refused: the record passes 1 to 5, each of its basic rights is one of the version's, and there is room
record Convertible (v : ℕ) (b : List ℕ) (room : ℕ) : Type 0 where
  valid : record_refusal limits b ≡ 0
  fits : basic_from (basics_of (in_version v (shape_of b))) (shape_of b) (state_of b) ≡ false
  long : size_of (in_version v (shape_of b)) ≤ room

-- the refusal of a record is 0 or one of 1 to 5
record_few : (b : List ℕ) → record_refusal limits b ≤ 5
record_few b = few (numbered_among (record_conditions b) (record_numbered b))
  where
    few : {m : ℕ} → Among m (0 ∷ 1 ∷ 2 ∷ 3 ∷ 4 ∷ 5 ∷ []) → m ≤ 5
    few (inl e) = omega arith
    few (inr (inl e)) = omega arith
    few (inr (inr (inl e))) = omega arith
    few (inr (inr (inr (inl e)))) = omega arith
    few (inr (inr (inr (inr (inl e))))) = omega arith
    few (inr (inr (inr (inr (inr (inl e)))))) = omega arith
    few (inr (inr (inr (inr (inr (inr e)))))) = absurd e

module _ (v : ℕ) (b : List ℕ) (room : ℕ) where
  abbrev high : Bool
  high = basic_from (basics_of (in_version v (shape_of b))) (shape_of b) (state_of b)

  abbrev bytes : ℕ
  bytes = size_of (in_version v (shape_of b))

  abbrev tests : List Test
  tests = test (record_refusal limits b) (eqb (record_refusal limits b) 0) ∷ test 18 (not high) ∷ test 15 (leb bytes room) ∷ []

  convertible : convert_refusal limits v b room ≡ 0 → Convertible v b room
  unfolding convert_refusal
  convertible h =
      let t = none_failed tests (λ e. eqb-false (record_refusal limits b) 0 e, (omega arith, (omega arith, tt))) h in
      record { valid = eqb-true (record_refusal limits b) 0 t.0; fits = not-true high t.1.0; long = leb-true bytes room t.1.1.0 }

  not_refused : Convertible v b room → convert_refusal limits v b room ≡ 0
  unfolding convert_refusal
  not_refused c = all_passed tests (eq-eqb (record_refusal limits b) 0 c.valid, (fails_not c.fits, (le-leb bytes room c.long, tt)))

  -- 18 is not given where no basic right is set that the version has no room for
  never_18 : high ≡ false → convert_refusal limits v b room ≢ 18
  unfolding convert_refusal first_failed
  never_18 h = rw h (by (eqb (record_refusal limits b) 0) (leb bytes room))
    where
      by : (t u : Bool) → ◌≢◌ {A = ℕ} (cond t (cond u 0 15) (record_refusal limits b)) 18
      by true true e = omega arith
      by true false e = omega arith
      by false u e = omega (arith, record_few b)

  -- 15 is not given where there is room for every record that passes
  never_15 : (record_refusal limits b ≡ 0 → bytes ≤ room) → convert_refusal limits v b room ≢ 15
  unfolding convert_refusal first_failed
  never_15 h =
      ⊎_elim
      (λ (t : eqb (record_refusal limits b) 0 ≡ true).
      let l : leb bytes room ≡ true = le-leb bytes room (h (eqb-true (record_refusal limits b) 0 t)) in rw (t, l) (first high))
      (λ (t : eqb (record_refusal limits b) 0 ≡ false). rw t (λ e. omega (arith, record_few b))) (way (eqb (record_refusal limits b) 0))
    where
      first : (u : Bool) → ◌≢◌ {A = ℕ} (cond (not u) 0 18) 15
      first true e = omega arith
      first false e = omega arith

-- ---- a record in its own version

module _ (b : List ℕ) where
  -- it has room for each basic right that is read from the record
  own_fits : (f : Shape) → basic_from (basics_of (in_version (shape_of b).version (shape_of b))) f (state_of b) ≡ false
  own_fits f =
      ap (λ (g : Shape). basic_from (basics_of g) f (state_of b)) (own_version b) ∙ none_without_room f (shape_of b) (state_of b) (within_read b)

  -- what is read, written in it, is the same bytes
  own_bytes : record_refusal limits b ≡ 0 → Octets b → bytes_of (content (in_version (shape_of b).version (shape_of b)) (state_of b)) ≡ b
  own_bytes valid o = ap (λ (f : Shape). bytes_of (content f (state_of b))) (own_version b) ∙ read_write b (record_shaped b valid) o

-- ---- the new record

module _ (v : ℕ) (b out : List ℕ) (known : known_version v ≡ true) (c : Convertible v b (length out)) where
  -- what it holds
  abbrev new : Content
  new = content (in_version v (shape_of b)) (state_of b)

  sound : Sound new
  sound =
      let s = sound_record b c.valid in
      record {
        shape = right_version v (shape_of b) known s.shape;
        valid = s.valid;
        within = within_version v (shape_of b) (state_of b) s.within c.fits;
      }

  size_is : length (bytes_of new) ≡ size_of new.shape
  size_is = length_write new.shape new.state sound.shape

  result_is : convert_result limits v b out ≡ numbers 0 (size_of new.shape)
  unfolding convert_result
  result_is = rw (not_refused v b (length out) c) refl

  output_is : convert_output limits v b out ≡ bytes_of new ++ drop (size_of new.shape) out
  unfolding convert_output converted
  output_is = rw (not_refused v b (length out) c) refl

  value_is : value_to v b out ≡ size_of new.shape
  value_is = ap (λ (r : Numbers). r.value) result_is

  record_is : record_to v b out ≡ bytes_of new
  record_is = ap₂ take value_is output_is ∙ take_at (bytes_of new) (drop (size_of new.shape) out) (size_of new.shape) size_is

  whole_is : length (convert_output limits v b out) ≡ length out
  whole_is =
      ap length output_is ∙ length-append (bytes_of new) (drop (size_of new.shape) out)
      ∙ ap₂ (λ (x y : ℕ). x + y) size_is (length-drop (size_of new.shape) out) ∙ rest (size_of new.shape) (length out) c.long
    where
      rest : (x y : ℕ) → x ≤ y → x + (y - x) ≡ y
      rest x y h = omega arith

  shape_is : shape_of (record_to v b out) ≡ new.shape
  shape_is = ap shape_of record_is ∙ ap (λ (m : Content). m.shape) (content_read new sound)

  new_record : NewRecord v b out
  new_record =
      record {
        value = value_is;
        size = ap length record_is ∙ size_is ∙ sym value_is;
        octets = subst Octets (sym record_is) (bytes_octets new sound);
        valid = ap (valid_answer limits) record_is ∙ valid_so (bytes_of new) (bytes_pass new sound);
        version = ap (λ (f : Shape). f.version) shape_is;
        subjects = ap (λ (f : Shape). f.n) shape_is;
        plain = ap (λ (f : Shape). f.p) shape_is;
        state = ap state_of record_is ∙ ap (λ (m : Content). m.state) (content_read new sound);
        later = ap₂ drop value_is output_is ∙ drop_at (bytes_of new) (drop (size_of new.shape) out) (size_of new.shape) size_is
            ∙ ap (λ (k : ℕ). drop k out) (sym value_is);
        whole = whole_is;
        copied = λ o e. record_is ∙ ap (λ (u : ℕ). bytes_of (content (in_version u (shape_of b)) (state_of b))) (sym e) ∙ own_bytes b c.valid o;
      }

-- ---- there and back

module _ (v : ℕ) (b out other : List ℕ) (known : known_version v ≡ true) (c : Convertible v b (length out)) where
  abbrev u : ℕ
  u = (shape_of b).version

  abbrev there : Content
  there = new v b out known c

  read : content_of (bytes_of there) ≡ there
  read = content_read there (sound v b out known c)

  -- the tests and the bytes of the conversion back
  back_size : size_of (in_version u (shape_of (bytes_of there))) ≡ length b
  back_size = ap (λ (m : Content). size_of (in_version u m.shape)) read ∙ ap size_of (own_version b) ∙ sym (record_shaped b c.valid).size

  back_bytes : Octets b → bytes_of (content (in_version u (shape_of (bytes_of there))) (state_of (bytes_of there))) ≡ b
  back_bytes o = ap (λ (m : Content). bytes_of (content (in_version u m.shape) m.state)) read ∙ own_bytes b c.valid o

  back_fits : basic_from (basics_of (in_version u (shape_of (bytes_of there)))) (shape_of (bytes_of there)) (state_of (bytes_of there)) ≡ false
  back_fits = ap (λ (m : Content). basic_from (basics_of (in_version u m.shape)) m.shape m.state) read ∙ own_fits b there.shape

  back : length b ≤ length other → Convertible u (bytes_of there) (length other)
  back l = record { valid = bytes_pass there (sound v b out known c); fits = back_fits; long = rw back_size l }

  returned : Octets b → Returned u v b out other
  unfolding convert_result
  returned o =
      record {
        never = subst (λ (x : List ℕ). refusal_to u x other ≢ 18) (sym copy) (never_18 u (bytes_of there) (length other) back_fits);
        answer = λ l. ap (λ (x : List ℕ). convert_result limits u x other) copy ∙ result_is u (bytes_of there) other own (back l) ∙ ap (numbers 0) back_size;
        same = λ l. ap (λ (x : List ℕ). record_to u x other) copy ∙ record_is u (bytes_of there) other own (back l) ∙ back_bytes o;
      }
    where
      copy : record_to v b out ≡ bytes_of there
      copy = record_is v b out known c

      own : known_version u ≡ true
      own = (record_shaped b c.valid).version

-- ---- the claim

-- no record that passes has more bytes in any version
few_bytes : (v : ℕ) (b : List ℕ) → record_refusal limits b ≡ 0 → size_of (in_version v (shape_of b)) ≤ enough_output
few_bytes v b valid =
    let s = record_shaped b valid in
    most (width_of v * ((shape_of b).n * ((shape_of b).n + (shape_of b).p)))
    (mul-le-mul (narrow (widths v)) (mul-le-mul s.high (columns_most s.high s.plain)))
  where
    narrow : TwoOrFour (width_of v) → width_of v ≤ 4
    narrow (inl e) = omega arith
    narrow (inr e) = omega arith

    columns_most : (shape_of b).n ≤ most_subjects → (shape_of b).p ≤ most_plain → (shape_of b).n + (shape_of b).p ≤ most_subjects + most_plain
    columns_most n p = omega arith

    most : (x : ℕ) → x ≤ 4 * (most_subjects * (most_subjects + most_plain)) → 7 + x ≤ enough_output
    most x h = omega arith

module _ (v : ℕ) (b out : List ℕ) where
  kept : refusal_to v b out ≢ 0 → (convert_output limits v b out ≡ out) × (value_to v b out ≡ 0)
  unfolding convert_result convert_output
  kept some =
      let t : eqb (convert_refusal limits v b (length out)) 0 ≡ false = ne_eqb (convert_refusal limits v b (length out)) 0 some in
      (rw t refl, rw t refl)

  own_never : (shape_of b).version ≡ v → refusal_to v b out ≢ 18
  unfolding convert_result
  own_never e =
      never_18 v b (length out)
      (ap (λ (u : ℕ). basic_from (basics_of (in_version u (shape_of b))) (shape_of b) (state_of b)) (sym e) ∙ own_fits b (shape_of b))

  roomy : enough_output ≤ length out → refusal_to v b out ≢ 15
  unfolding convert_result
  roomy l = never_15 v b (length out) (λ valid. omega (arith, few_bytes v b valid))

  answered_so : known_version v ≡ true → refusal_to v b out ≡ 0 → NewRecord v b out
  unfolding convert_result
  answered_so known h = new_record v b out known (convertible v b (length out) h)

basics_only : (v : ℕ) (b c out : List ℕ) → valid_answer limits b ≡ true → valid_answer limits c ≡ true
    → shape_of b ≡ shape_of c → (state_of b).basic ≡ (state_of c).basic → convert_result limits v b out ≡ convert_result limits v c out
unfolding convert_result convert_refusal
basics_only v b c out p q shape basic =
    rw (passes b p, passes c q, shape, basic_same (basics_of (in_version v (shape_of c))) (shape_of c) (state_of b) (state_of c) basic) refl

back_so : (u v : ℕ) (b out other : List ℕ) → Octets b → known_version v ≡ true → (shape_of b).version ≡ u → refusal_to v b out ≡ 0
    → Returned u v b out other
unfolding convert_result
back_so u v b out other o known e h =
    subst (λ (x : ℕ). Returned x v b out other) e (returned v b out other known (convertible v b (length out) h) o)

-- to version 2 a record that passes is refused for want of room alone
widened : (b out : List ℕ) → valid_answer limits b ≡ true → record_bytes 4 (shape_of b) ≤ length out → refusal_to 2 b out ≡ 0
unfolding convert_result
widened b out valid room =
    (version2_numbered b (length out)).answered.1
    (none_both (record_conditions b) (condition 15 (length out < record_bytes 4 (shape_of b)) ∷ [])
    ((record_numbered b).answered.0 (passes b valid)) ((λ h. omega arith), tt))

pub conversions : Conversions
unfolding convert_result
conversions =
    record {
      number_1 = λ b out. version1_numbered b (length out);
      only_1 = λ b out. numbered_among (version1_conditions b (length out)) (version1_numbered b (length out));
      number_2 = λ b out. version2_numbered b (length out);
      only_2 = λ b out. numbered_among (version2_conditions b (length out)) (version2_numbered b (length out));
      own_version = own_never;
      basic_alone = basics_only;
      room = roomy;
      refused = kept;
      answered = answered_so;
      back = back_so;
      from_1 = λ b out other o valid e room. let h = widened b out valid room in (h, back_so 1 2 b out other o refl e h);
      from_2 = λ b out other o e h. back_so 2 1 b out other o refl e h;
    }
