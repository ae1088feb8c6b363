-- The two conversions (Manual 2.4, 7.3): a record is written in version 1 or in version 2, is read as the same state there, and back in its own version
-- it is the same bytes. The record is lent to be read alone, so that there is nothing to say of its bytes.
use Rattle.std.specs.Prelude.{ℕ, ◌≤◌, ◌≡◌, ◌≢◌, true, List, [], ◌∷◌, length, take, drop}
use Rattle.matrix.specs.Numbers.{numbers}
use Rattle.matrix.specs.Shape.{limits, known_version, width_of, shape_of}
use Rattle.matrix.specs.Shaped.{Octets}
use Rattle.matrix.specs.Reading.{state_of}
use Rattle.matrix.specs.Calls.{valid_answer}
use Rattle.matrix.specs.Converting.{convert_result, convert_output}
use Rattle.demands.specs.First.{Numbered, Among}
use Rattle.demands.specs.Printed.{record_bytes, version1_conditions, version2_conditions}

-- the refusal and the value of a conversion to version v, and the new record: the first bytes of the output after it, as many as the value says
abbrev pub refusal_to : ℕ → List ℕ → List ℕ → ℕ
refusal_to v b out = (convert_result limits v b out).refusal

abbrev pub value_to : ℕ → List ℕ → List ℕ → ℕ
value_to v b out = (convert_result limits v b out).value

abbrev pub record_to : ℕ → List ℕ → List ℕ → List ℕ
record_to v b out = take (value_to v b out) (convert_output limits v b out)

-- What an answered conversion leaves: a record that passes 1 to 5, of the wanted version, with the same n and p, read as the same state; every later
-- byte of the output as it was; and a record that is of the wanted version already, copied.
pub record NewRecord (v : ℕ) (b out : List ℕ) : Type 0 where
  pub value : value_to v b out ≡ record_bytes (width_of v) (shape_of b)
  pub size : length (record_to v b out) ≡ value_to v b out
  pub octets : Octets (record_to v b out)
  pub valid : valid_answer limits (record_to v b out) ≡ true
  pub version : (shape_of (record_to v b out)).version ≡ v
  pub subjects : (shape_of (record_to v b out)).n ≡ (shape_of b).n
  pub plain : (shape_of (record_to v b out)).p ≡ (shape_of b).p
  pub state : state_of (record_to v b out) ≡ state_of b
  pub later : drop (value_to v b out) (convert_output limits v b out) ≡ drop (value_to v b out) out
  pub whole : length (convert_output limits v b out) ≡ length out
  pub copied : Octets b → (shape_of b).version ≡ v → record_to v b out ≡ b

-- A record of version u, converted to version v, and what is written there converted back with another output: never refused by 18, and given
-- room the same bytes.
pub record Returned (u v : ℕ) (b out other : List ℕ) : Type 0 where
  pub never : refusal_to u (record_to v b out) other ≢ 18
  pub answer : length b ≤ length other → convert_result limits u (record_to v b out) other ≡ numbers 0 (length b)
  pub same : length b ≤ length other → record_to u (record_to v b out) other ≡ b

-- an output of so many bytes is enough for every conversion
abbrev pub enough_output : ℕ
enough_output = 25607

pub record Conversions : Type 0 where
  -- to version 1: 1 to 5, then 18, then 15, each exactly where its condition is the first to hold
  pub number_1 : (b out : List ℕ) → Numbered (version1_conditions b (length out)) (refusal_to 1 b out)
  pub only_1 : (b out : List ℕ) → Among (refusal_to 1 b out) (0 ∷ 1 ∷ 2 ∷ 3 ∷ 4 ∷ 5 ∷ 18 ∷ 15 ∷ [])
  -- to version 2: 1 to 5, then 15
  pub number_2 : (b out : List ℕ) → Numbered (version2_conditions b (length out)) (refusal_to 2 b out)
  pub only_2 : (b out : List ℕ) → Among (refusal_to 2 b out) (0 ∷ 1 ∷ 2 ∷ 3 ∷ 4 ∷ 5 ∷ 15 ∷ [])
  -- a record that is of the wanted version already is never refused by 18
  pub own_version : (v : ℕ) (b out : List ℕ) → (shape_of b).version ≡ v → refusal_to v b out ≢ 18
  -- own and control count for nothing: two valid records of one shape with the same basic rights are answered the same
  pub basic_alone : (v : ℕ) (b c out : List ℕ) → valid_answer limits b ≡ true → valid_answer limits c ≡ true
      → shape_of b ≡ shape_of c → (state_of b).basic ≡ (state_of c).basic → convert_result limits v b out ≡ convert_result limits v c out
  -- with enough bytes of output none is refused by 15
  pub room : (v : ℕ) (b out : List ℕ) → enough_output ≤ length out → refusal_to v b out ≢ 15
  -- refused: the output is byte for byte as it was, and the value is 0
  pub refused : (v : ℕ) (b out : List ℕ) → refusal_to v b out ≢ 0 → (convert_output limits v b out ≡ out) × (value_to v b out ≡ 0)
  -- answered: the output begins with the new record
  pub answered : (v : ℕ) (b out : List ℕ) → known_version v ≡ true → refusal_to v b out ≡ 0 → NewRecord v b out
  -- there and back, from any version to any other; from 1, where the first conversion is never refused given room; and from 2
  pub back : (u v : ℕ) (b out other : List ℕ) → Octets b → known_version v ≡ true → (shape_of b).version ≡ u → refusal_to v b out ≡ 0
      → Returned u v b out other
  pub from_1 : (b out other : List ℕ) → Octets b → valid_answer limits b ≡ true → (shape_of b).version ≡ 1 → record_bytes 4 (shape_of b) ≤ length out
      → (refusal_to 2 b out ≡ 0) × Returned 1 2 b out other
  pub from_2 : (b out other : List ℕ) → Octets b → (shape_of b).version ≡ 2 → refusal_to 1 b out ≡ 0 → Returned 2 1 b out other
