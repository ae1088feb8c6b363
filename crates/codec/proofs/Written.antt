-- The bytes that a state is written as: they have the shape's header and length, and each cell holds the state's bits.
use Prim.Native.Nat.{ℕ, suc, ◌+◌, ◌-◌, ◌*◌, ◌^◌, ◌≤◌, ◌<◌}
use Rattle.std.proofs.Common.{zero-add, ◌∙◌, subst}
use native.Mathlib.Omega.{arith}
use Rattle.std.specs.Prelude.{◌≡◌, length}
use Rattle.std.proofs.Math.Path.{refl, sym, ap, ap₂}
use Rattle.std.proofs.Math.Logic.{⊎_elim}
use mathlib.Core.List.{List, [], ◌∷◌, append-nil, append_assoc}
use Rattle.std.proofs.Math.ListN.{get_or, length-append}
use Rattle.std.proofs.Math.Seq.{get_or-append-add}
use Rattle.std.proofs.Math.Arith.{digits_lt}
use Rattle.matrix.specs.declared.Shape.{Shape}
use Rattle.matrix.specs.Rights.{right_of}
use Rattle.matrix.specs.Names.{name_of}
use Rattle.matrix.specs.State.{State, has}
use Rattle.matrix.specs.Bytes.{number_at, bytes_of_number, joined}
use Rattle.matrix.specs.Shape.{shape_of, columns, count_of, bits_of, size_of, cell_place}
use Rattle.matrix.specs.Reading.{cell_at, content, cell_of, row_of, header, bytes_of}
use Rattle.matrix.specs.Shaped.{Shaped, Octets}
use Rattle.codec.specs.ShapeRight.{ShapeRight, most_bytes, versions}
use Rattle.codec.proofs.ShapeRight.{size_most}
use Rattle.codec.specs.Bits.{from_bits_below}
use Rattle.codec.specs.Numbers.{number_at_agree, number_at_bytes, length_bytes_of_number, octets_bytes_of_number, pow_bytes}
use Rattle.codec.specs.Blocks.{length_joined, get_or_joined, octets_nil, octets_cons, octets_append, octets_joined}

pub length_header : (f : Shape) → ShapeRight f → length (header f) ≡ f.first
length_header f g =
    length-append (f.version ∷ bytes_of_number 4 (count_of f)) (f.n ∷ f.p ∷ [])
    ∙ ap (λ (k : ℕ). suc k + 2) (length_bytes_of_number 4 (count_of f)) ∙ sym g.first

module _ (f : Shape) (S : State) where
  length_row : (r : ℕ) → length (row_of f S r) ≡ columns f * f.width
  length_row r =
      length_joined (columns f) f.width (λ c. bytes_of_number f.width (cell_of f S r c)) (λ c l. length_bytes_of_number f.width (cell_of f S r c))

  pub length_write : ShapeRight f → length (bytes_of (content f S)) ≡ size_of f
  unfolding bytes_of
  length_write g =
      length-append (header f) (joined f.n (row_of f S))
      ∙ ap₂ (λ (x y : ℕ). x + y) (length_header f g) (length_joined f.n (columns f * f.width) (row_of f S) (λ r l. length_row r))
      ∙ regroup f.first f.n (columns f) f.width
    where
      regroup : (a n k w : ℕ) → a + n * (k * w) ≡ a + w * (n * k)
      regroup a n k w = omega arith

  -- the header as it is read
  version_write : get_or (bytes_of (content f S)) 0 0 ≡ f.version
  unfolding bytes_of
  version_write = refl

  n_write : get_or (bytes_of (content f S)) 5 0 ≡ f.n
  unfolding bytes_of bytes_of_number
  n_write = refl

  p_write : get_or (bytes_of (content f S)) 6 0 ≡ f.p
  unfolding bytes_of bytes_of_number
  p_write = refl

  pub shape_write : ShapeRight f → shape_of (bytes_of (content f S)) ≡ f
  unfolding shape_of
  shape_write g =
      rw (version_write, n_write, p_write)
      (λ i. record { version = f.version; n = f.n; p = f.p; width = sym g.width i; first = sym g.first i })

  -- the count is one of four bytes
  count_fits : ShapeRight f → count_of f < 256 ^ 4
  count_fits g = few (size_of f) (size_most f g)
    where
      few : (x : ℕ) → x ≤ most_bytes → x - 5 < 256 ^ 4
      few x h = omega arith

  pub count_write : ShapeRight f → number_at (bytes_of (content f S)) 1 4 ≡ count_of f
  unfolding bytes_of
  count_write g =
      ap (λ (x : List ℕ). number_at (f.version ∷ x) 1 4) (append_assoc (bytes_of_number 4 (count_of f)) (f.n ∷ f.p ∷ []) (joined f.n (row_of f S)))
      ∙ number_at_bytes (f.version ∷ []) 4 (count_of f) (f.n ∷ f.p ∷ joined f.n (row_of f S)) (count_fits g)

  -- a byte of a cell
  get_or_write : (r c j : ℕ) → ShapeRight f → r < f.n → c < columns f → j < f.width
      → get_or (bytes_of (content f S)) (cell_place f r c + j) 0 ≡ get_or (bytes_of_number f.width (cell_of f S r c)) j 0
  unfolding bytes_of
  get_or_write r c j g h l k =
      ap (λ (i : ℕ). get_or (bytes_of (content f S)) i 0) place
      ∙ get_or-append-add (header f) (joined f.n (row_of f S)) (r * (columns f * f.width) + (c * f.width + j)) 0
      ∙ get_or_joined f.n (columns f * f.width) (row_of f S) (λ a b. length_row a) r (c * f.width + j) h (digits_lt l k)
      ∙ get_or_joined (columns f) f.width (λ d. bytes_of_number f.width (cell_of f S r d)) (λ d b. length_bytes_of_number f.width (cell_of f S r d)) c j l k
    where
      regroup : (a w i k d m z : ℕ) → z ≡ a → a + w * (i * k + d) + m ≡ z + (i * (k * w) + (d * w + m))
      regroup a w i k d m z e = omega arith

      place : cell_place f r c + j ≡ length (header f) + (r * (columns f * f.width) + (c * f.width + j))
      place = regroup f.first f.width r (columns f) c j (length (header f)) (length_header f g)

  -- a cell as it is read
  pub cell_write : (r c : ℕ) → ShapeRight f → r < f.n → c < columns f → cell_at (bytes_of (content f S)) r c ≡ cell_of f S r c
  unfolding cell_at
  cell_write r c g h l = rw (shape_write g) number
    where
      v : ℕ
      v = cell_of f S r c

      below : v < 256 ^ f.width
      below = rw (pow_bytes f.width) (from_bits_below (bits_of f) (λ j. has S (right_of j) r (name_of f.n c)))

      number : number_at (bytes_of (content f S)) (cell_place f r c) f.width ≡ v
      number =
          number_at_agree (bytes_of (content f S)) (bytes_of_number f.width v) (cell_place f r c) 0 f.width
          (λ j k. get_or_write r c j g h l k ∙ ap (λ (i : ℕ). get_or (bytes_of_number f.width v) i 0) (sym (zero-add j)))
          ∙ whole
        where
          whole : number_at (bytes_of_number f.width v) 0 f.width ≡ v
          whole = subst (λ (x : List ℕ). number_at x 0 f.width ≡ v) (append-nil (bytes_of_number f.width v)) (number_at_bytes [] f.width v [] below)

  pub shaped_write : ShapeRight f → Shaped (bytes_of (content f S))
  shaped_write g =
      record {
        version = rw (shape_write g) g.version;
        low = rw (shape_write g) g.low;
        high = rw (shape_write g) g.high;
        plain = rw (shape_write g) g.plain;
        count = rw (shape_write g) (count_write g);
        size = rw (shape_write g) (length_write g);
      }

  pub octets_write : ShapeRight f → Octets (bytes_of (content f S))
  unfolding bytes_of
  octets_write g =
      octets_append (header f) (joined f.n (row_of f S))
      (octets_append (f.version ∷ bytes_of_number 4 (count_of f)) (f.n ∷ f.p ∷ [])
      (octets_cons f.version (bytes_of_number 4 (count_of f)) version (octets_bytes_of_number 4 (count_of f)))
      (octets_cons f.n (f.p ∷ []) (omega arith) (octets_cons f.p [] (omega arith) octets_nil)))
      (octets_joined f.n (row_of f S)
      (λ r h. octets_joined (columns f) (λ c. bytes_of_number f.width (cell_of f S r c)) (λ c l. octets_bytes_of_number f.width (cell_of f S r c))))
    where
      version : f.version < 256
      version = ⊎_elim (λ (e : f.version ≡ 1). omega arith) (λ (e : f.version ≡ 2). omega arith) (versions f.version g.version)
