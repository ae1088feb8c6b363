-- The header of a shape stored in bytes of its size: they are of the right form then, whatever the cells are.
use Rattle.std.specs.Prelude.{ℕ, ◌+◌, ◌-◌, ◌*◌, ◌^◌, ◌≤◌, ◌<◌, ◌≡◌, List, length, set}
use Rattle.std.proofs.Common.{add-zero, ◌∙◌, subst, ⊎_elim}
use Rattle.std.proofs.Math.Nat.{mod-eq_of_lt}
use native.Mathlib.Omega.{arith}
use Rattle.std.proofs.Math.Path.{refl, sym}
use Rattle.std.proofs.Math.ListN.{get_or, length-set}
use Rattle.std.proofs.Math.Seq.{get_or-set_same, get_or-set_other}
use Rattle.matrix.specs.declared.Shape.{Shape}
use Rattle.matrix.specs.Bytes.{number_at, set_number}
use Rattle.matrix.specs.Shape.{header_bytes, shape_of, columns, count_of, size_of}
use Rattle.matrix.specs.Shaped.{Shaped, Octets}
use Rattle.codec.specs.ShapeRight.{ShapeRight, most_bytes, versions}
use Rattle.codec.proofs.ShapeRight.{size_most}
use Rattle.codec.specs.Numbers.{length_set_number, get_or_set_number_other, number_at_agree, number_at_set_same, octets_set_number}
use Rattle.cells.specs.Station.{Station}

-- version, L, n and p
unfoldable pub put_header : List ℕ → Shape → List ℕ
put_header out g = set (set (set_number (set out 0 g.version) 1 4 (count_of g)) 5 g.n) 6 g.p

-- a byte stored leaves bytes
octets_byte : (l : List ℕ) (i v : ℕ) → v < 256 → Octets l → Octets (set l i v)
octets_byte l i v h o = subst Octets stored (octets_set_number l i 1 v o)
  where
    stored : set_number l i 1 v ≡ set l i v
    stored = unfold set_number in rw (add-zero, mod-eq_of_lt h) refl

-- the version is one byte
pub version_byte : (g : Shape) → ShapeRight g → g.version < 256
version_byte g s = ⊎_elim (λ (e : g.version ≡ 1). omega arith) (λ (e : g.version ≡ 2). omega arith) (versions g.version s.version)

module _ (out : List ℕ) (g : Shape) (s : ShapeRight g) (long : length out ≡ size_of g) where
  -- the bytes with version and L alone
  abbrev counted : List ℕ
  counted = set_number (set out 0 g.version) 1 4 (count_of g)

  length_counted : length counted ≡ length out
  length_counted = length_set_number (set out 0 g.version) 1 4 (count_of g) ∙ length-set out 0 g.version

  length_named : length (set counted 5 g.n) ≡ length out
  length_named = length-set counted 5 g.n ∙ length_counted

  pub length_header : length (put_header out g) ≡ length out
  unfolding put_header
  length_header = length-set (set counted 5 g.n) 6 g.p ∙ length_named

  -- the header's bytes are there
  pub header_room : header_bytes ≤ length out
  header_room = least g.first (g.width * (g.n * columns g)) s.first long
    where
      least : (a x : ℕ) {y : ℕ} → a ≡ header_bytes → y ≡ a + x → header_bytes ≤ y
      least a x e d = omega arith

  header_shape : shape_of (put_header out g) ≡ g
  unfolding put_header shape_of
  header_shape = rw (version, n, p) (λ i. record { version = g.version; n = g.n; p = g.p; width = sym s.width i; first = sym s.first i })
    where
      version : get_or (set (set counted 5 g.n) 6 g.p) 0 0 ≡ g.version
      version =
          get_or-set_other (set counted 5 g.n) 6 0 g.p 0 (λ e. omega arith) ∙ get_or-set_other counted 5 0 g.n 0 (λ e. omega arith)
          ∙ get_or_set_number_other (set out 0 g.version) 1 4 (count_of g) 0 (λ l u. omega arith) ∙ get_or-set_same out 0 g.version 0 (omega (arith, header_room))

      n : get_or (set (set counted 5 g.n) 6 g.p) 5 0 ≡ g.n
      n =
          get_or-set_other (set counted 5 g.n) 6 5 g.p 0 (λ e. omega arith)
          ∙ get_or-set_same counted 5 g.n 0 (omega (arith, header_room, length_counted))

      p : get_or (set (set counted 5 g.n) 6 g.p) 6 0 ≡ g.p
      p = get_or-set_same (set counted 5 g.n) 6 g.p 0 (omega (arith, header_room, length_named))

  header_count : number_at (put_header out g) 1 4 ≡ count_of g
  unfolding put_header
  header_count =
      number_at_agree (set (set counted 5 g.n) 6 g.p) counted 1 1 4
      (λ j l. get_or-set_other (set counted 5 g.n) 6 (1 + j) g.p 0 (λ e. omega arith) ∙ get_or-set_other counted 5 (1 + j) g.n 0 (λ e. omega arith))
      ∙ number_at_set_same (set out 0 g.version) 1 4 (count_of g) (omega (arith, header_room, length-set out 0 g.version)) (few (size_of g) (size_most g s))
    where
      few : (x : ℕ) → x ≤ most_bytes → x - 5 < 256 ^ 4
      few x h = omega arith

  header_octets : Octets out → Octets (put_header out g)
  unfolding put_header
  header_octets o =
      octets_byte (set counted 5 g.n) 6 g.p (omega (arith, s.plain))
      (octets_byte counted 5 g.n (omega (arith, s.high))
      (octets_set_number (set out 0 g.version) 1 4 (count_of g) (octets_byte out 0 g.version (version_byte g s) o)))

  pub header_station : Octets out → Station (put_header out g) g
  header_station o = record { shaped = shaped; octets = header_octets o; shape = sym header_shape }
    where
      shaped : Shaped (put_header out g)
      shaped =
          record {
            version = rw header_shape s.version;
            low = rw header_shape s.low;
            high = rw header_shape s.high;
            plain = rw header_shape s.plain;
            count = rw header_shape header_count;
            size = rw header_shape (length_header ∙ long);
          }
