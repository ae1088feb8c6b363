-- Laws of parts of one length that are joined: where each part stands. They serve the rows of a record and the cells of a row.
use Rattle.std.specs.Prelude.{ℕ, zero, suc, ◌+◌, ◌-◌, ◌*◌, ◌<◌, ◌≡◌, refl, true, false, List, [], ◌∷◌, ◌++◌, ltb, length, get_or, take, drop}
use Rattle.std.proofs.Common.{not-suc-le-zero, suc-mul, arith, sym, ◌∙◌, ap, ap₂, subst, ⊎_elim, length-append, get_or-append-add, take-add, drop-drop, ltb-true, ltb-false}
use Rattle.std.proofs.Math.ListN.{get_or-append}
use Rattle.std.proofs.Math.Arith.{digits_lt}
use Rattle.matrix.specs.Bytes.{joined}
use Rattle.matrix.specs.Shaped.{Octets}
use Rattle.laws.specs.Tests.{way}
use Rattle.laws.specs.Bounded.{below_suc}

pub joined_same : (m : ℕ) (g h : ℕ → List ℕ) → ((i : ℕ) → i < m → g i ≡ h i) → joined m g ≡ joined m h
unfolding joined
joined_same zero g h e = refl
joined_same (suc m) g h e = ap₂ {C = List ℕ} (λ x y. x ++ y) (joined_same m g h (λ i l. e i (omega arith))) (e m (omega arith))

pub length_joined : (m k : ℕ) (g : ℕ → List ℕ) → ((i : ℕ) → i < m → length (g i) ≡ k) → length (joined m g) ≡ m * k
unfolding joined
length_joined zero k g e = omega arith
length_joined (suc m) k g e =
    length-append (joined m g) (g m) ∙ ap₂ (λ (x y : ℕ). x + y) (length_joined m k g (λ i l. e i (omega arith))) (e m (omega arith)) ∙ sym (suc-mul m k)

-- the element j of the part i
pub get_or_joined : (m k : ℕ) (g : ℕ → List ℕ) → ((i : ℕ) → i < m → length (g i) ≡ k) → (i j : ℕ) → i < m → j < k
    → get_or (joined m g) (i * k + j) 0 ≡ get_or (g i) j 0
unfolding joined
get_or_joined zero k g e i j h l = absurd (not-suc-le-zero h)
get_or_joined (suc m) k g e i j h l = ⊎_elim (λ b. earlier b (get_or_joined m k g (λ a c. e a (omega arith)) i j b l)) last (below_suc i m h)
  where
    long : length (joined m g) ≡ m * k
    long = length_joined m k g (λ a c. e a (omega arith))

    earlier : i < m → get_or (joined m g) (i * k + j) 0 ≡ get_or (g i) j 0 → get_or (joined m g ++ g m) (i * k + j) 0 ≡ get_or (g i) j 0
    earlier b s = get_or-append (joined m g) (g m) 0 (i * k + j) (rw long (digits_lt b l)) ∙ s

    last : i ≡ m → get_or (joined m g ++ g m) (i * k + j) 0 ≡ get_or (g i) j 0
    last q =
        ap (λ (a : ℕ). get_or (joined m g ++ g m) (a * k + j) 0) q ∙ ap (λ (a : ℕ). get_or (joined m g ++ g m) (a + j) 0) (sym long)
        ∙ get_or-append-add (joined m g) (g m) j 0 ∙ ap (λ (a : ℕ). get_or (g a) j 0) (sym q)

-- consecutive parts of a list, joined, are one part of it
pub joined_parts : (b : List ℕ) (at m k : ℕ) → joined m (λ i. take k (drop (at + i * k) b)) ≡ take (m * k) (drop at b)
unfolding joined
joined_parts b at zero k = let e : zero * k ≡ 0 = omega arith in rw e refl
joined_parts b at (suc m) k =
    rw (suc-mul m k, take-add (m * k) k (drop at b), drop-drop (m * k) at b, joined_parts b at m k) refl

-- bytes joined are bytes
pub octets_nil : Octets []
octets_nil = record { octet = λ j. omega arith }

pub octets_cons : (a : ℕ) (b : List ℕ) → a < 256 → Octets b → Octets (a ∷ b)
octets_cons a b h o = record { octet = λ j. each j }
  where
    each : (j : ℕ) → get_or (a ∷ b) j 0 < 256
    each zero = h
    each (suc j) = o.octet j

pub octets_append : (a b : List ℕ) → Octets a → Octets b → Octets (a ++ b)
octets_append a b p q = record { octet = λ j. each j }
  where
    each : (j : ℕ) → get_or (a ++ b) j 0 < 256
    each j =
        ⊎_elim (λ (l : ltb j (length a) ≡ true). rw (get_or-append a b 0 j (ltb-true j (length a) l)) (p.octet j))
        (λ (l : ltb j (length a) ≡ false).
        let e : length a + (j - length a) ≡ j = omega (arith, ltb-false j (length a) l) in
        subst (λ (i : ℕ). get_or (a ++ b) i 0 < 256) e (rw (get_or-append-add a b (j - length a) 0) (q.octet (j - length a))))
        (way (ltb j (length a)))

pub octets_joined : (m : ℕ) (g : ℕ → List ℕ) → ((i : ℕ) → i < m → Octets (g i)) → Octets (joined m g)
unfolding joined
octets_joined zero g h = octets_nil
octets_joined (suc m) g h = octets_append (joined m g) (g m) (octets_joined m g (λ i l. h i (omega arith))) (h m (omega arith))
