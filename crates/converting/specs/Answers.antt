-- The answer of a conversion of a record that passed 1 to 5: by which test it is refused, or what is written.
use Rattle.std.specs.Prelude.{ℕ, ◌≤◌, ◌<◌, ◌≡◌, Bool, true, false, cond, not, List, ◌++◌, leb, ltb, length}
use Rattle.std.proofs.Common.{arith, sym, ◌∙◌, ap, ap₂, ⊎_elim}
use Rattle.std.proofs.Math.Path.{refl, subst}
use Rattle.std.proofs.Math.ListN.{drop}
use borrow.Author.Tests.{leb-true, leb-false, le-ltb, lt-ltb, ne_eqb}
use Rattle.matrix.specs.declared.Numbers.{Numbers}
use Rattle.matrix.specs.declared.Shape.{Shape}
use Rattle.matrix.specs.Numbers.{numbers}
use Rattle.matrix.specs.Tests.{first_failed}
use Rattle.matrix.specs.Shape.{limits, shape_of, basics_of, size_of}
use Rattle.matrix.specs.Reading.{state_of, content, bytes_of}
use Rattle.matrix.specs.Record.{record_refusal}
use Rattle.matrix.specs.Converting.{in_version, basic_from, convert_refusal, converted, convert_result, convert_output}
use Rattle.laws.specs.Tests.{way}

-- the refusal after 1 to 5, where a basic right is set above those of the version, or the output is short
abbrev later : Bool → Bool → ℕ
later above short = cond above 18 (cond short 15 0)

-- as the definition tests
tested : (above : Bool) (size room : ℕ) → cond (not above) (cond (leb size room) 0 15) 18 ≡ later above (ltb room size)
tested true size room = refl
tested false size room =
    ⊎_elim (λ (h : leb size room ≡ true). rw (h, le-ltb room size (leb-true size room h)) refl)
    (λ (h : leb size room ≡ false). rw (h, lt-ltb room size (leb-false size room h)) refl) (way (leb size room))

-- the answer r, and the output after it, are those of the conversion
pub record Converts (v : ℕ) (b out out' : List ℕ) (r : Numbers) : Type 0 where
  pub result : r ≡ convert_result limits v b out
  pub output : out' ≡ convert_output limits v b out

-- A record b that passed 1 to 5, of shape f, and g that shape in version v; r is the refusal after 1 to 5.
module _ (v : ℕ) (b out : List ℕ) {f g : Shape} {r : ℕ} (s : f ≡ shape_of b) (w : g ≡ in_version v f) (passed : record_refusal limits b ≡ 0)
    (e : r ≡ later (basic_from (basics_of g) f (state_of b)) (ltb (length out) (size_of g))) where
  wanted : in_version v (shape_of b) ≡ g
  wanted = ap (in_version v) (sym s) ∙ sym w

  refusal : convert_refusal limits v b (length out) ≡ r
  refusal =
      tests ∙ tested (basic_from (basics_of h) (shape_of b) (state_of b)) (size_of h) (length out)
      ∙ ap₂ (λ (i k : Shape). later (basic_from (basics_of i) k (state_of b)) (ltb (length out) (size_of i))) wanted (sym s) ∙ sym e
    where
      h : Shape
      h = in_version v (shape_of b)

      tests : convert_refusal limits v b (length out) ≡ cond (not (basic_from (basics_of h) (shape_of b) (state_of b))) (cond (leb (size_of h) (length out)) 0 15) 18
      tests = unfold convert_refusal first_failed in rw passed refl

  refused : (r ≡ 0 → ⊥) → Converts v b out out (numbers r 0)
  unfolding convert_result convert_output
  refused n = let z = ne_eqb r 0 n in record { result = rw (refusal, z) refl; output = rw (refusal, z) refl }

  answered : r ≡ 0 → Converts v b out (bytes_of (content g (state_of b)) ++ drop (size_of g) out) (numbers 0 (size_of g))
  unfolding converted
  answered n = subst (λ (h : Shape). Converts v b out (bytes_of (content h (state_of b)) ++ drop (size_of h) out) (numbers 0 (size_of h))) wanted whole
    where
      zero : convert_refusal limits v b (length out) ≡ 0
      zero = refusal ∙ n

      whole : Converts v b out (converted v b ++ drop (size_of (in_version v (shape_of b))) out) (numbers 0 (size_of (in_version v (shape_of b))))
      whole = record { result = unfold convert_result in rw zero refl; output = unfold convert_output in rw zero refl }

-- The three answers: refused by 18, by 15, or written.
module _ (v : ℕ) (b out : List ℕ) {f g : Shape} (s : f ≡ shape_of b) (w : g ≡ in_version v f) (passed : record_refusal limits b ≡ 0) where
  pub high : basic_from (basics_of g) f (state_of b) ≡ true → Converts v b out out (numbers 18 0)
  high h = refused v b out {r = 18} s w passed (rw h refl) (λ z. absurd (omega arith))

  pub short : basic_from (basics_of g) f (state_of b) ≡ false → length out < size_of g → Converts v b out out (numbers 15 0)
  short h l = refused v b out {r = 15} s w passed (rw (h, lt-ltb (length out) (size_of g) l) refl) (λ z. absurd (omega arith))

  pub written : basic_from (basics_of g) f (state_of b) ≡ false → size_of g ≤ length out → Converts v b out (bytes_of (content g (state_of b)) ++ drop (size_of g) out) (numbers 0 (size_of g))
  written h l = answered v b out {r = 0} s w passed (rw (h, le-ltb (length out) (size_of g) l) refl) refl
