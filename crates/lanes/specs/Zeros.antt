-- Numbers merged one after another, and where they are zero.
use Rattle.std.specs.Prelude.{ℕ, zero, suc, ◌+◌, ◌*◌, ◌/◌, ◌%◌, ◌≤◌, ◌<◌, ◌≡◌, refl, ◌⊎◌, Bool, true, false, ◌&&◌, List, eqb}
use Rattle.std.proofs.Common.{arith, sym, ◌∙◌, ap, subst, inl, inr, eqb-true, eq-eqb}
use Rattle.std.specs.Int.Bits.{bit_or, bit_and, or_add_and, or_zero_l}
use Rattle.std.proofs.lemmas.Nat.{and_le_l, and_le_r}
use Rattle.std.proofs.lemmas.Bool.{eqb-false}
use Rattle.matrix.specs.Bounded.{all}
use Rattle.laws.specs.Tests.{way, same_test, and_left, and_right, and_both}
use Rattle.laws.specs.Bounded.{all_same, all_each, each_all}
use Rattle.lanes.specs.declared.Matrix.{Matrix}
use Rattle.lanes.specs.Lanes.{merged, fault_of, row_bytes, byte_at, lane_at, upper_at}
use Rattle.lanes.specs.LaneLaws.{merged_step, upper_byte}

-- bytes merged one after another
pub merged_none : (f : ℕ → ℕ) → 0 ≡ merged 0 f
unfolding merged
merged_none f = refl

pub merged_more : (i : ℕ) (f : ℕ → ℕ) (v : ℕ) → v ≡ merged i f → bit_or v (f i) ≡ merged (i + 1) f
merged_more i f v e = ap (λ (x : ℕ). bit_or x (f i)) e ∙ merged_step i f

pub merged_done : (i m : ℕ) (f : ℕ → ℕ) (v : ℕ) → i ≤ m → m ≤ i → v ≡ merged i f → eqb v 0 ≡ eqb (merged m f) 0
merged_done i m f v h l e = subst (λ (j : ℕ). eqb v 0 ≡ eqb (merged j f) 0) (omega arith) (ap (λ (x : ℕ). eqb x 0) e)

pub or_zero : (a b : ℕ) → eqb (bit_or a b) 0 ≡ (eqb a 0 && eqb b 0)
or_zero a b = same_test _ _ forth back
  where
    total : bit_or a b + bit_and a b ≡ a + b
    total = or_add_and a b

    forth : eqb (bit_or a b) 0 ≡ true → (eqb a 0 && eqb b 0) ≡ true
    forth h =
        let e : bit_or a b ≡ 0 = eqb-true (bit_or a b) 0 h in
        and_both (eq-eqb a 0 (omega (arith, total, and_le_l a b, and_le_r a b))) (eq-eqb b 0 (omega (arith, total, and_le_l a b, and_le_r a b)))

    back : (eqb a 0 && eqb b 0) ≡ true → eqb (bit_or a b) 0 ≡ true
    back h =
        let p : a ≡ 0 = eqb-true a 0 (and_left _ _ h) in
        let q : b ≡ 0 = eqb-true b 0 (and_right (eqb a 0) _ h) in
        eq-eqb (bit_or a b) 0 (omega (arith, total))

-- all of them are zero
pub merged_zero : (n : ℕ) (f : ℕ → ℕ) → eqb (merged n f) 0 ≡ all n (λ i. eqb (f i) 0)
unfolding merged all
merged_zero zero f = refl
merged_zero (suc n) f = or_zero (merged n f) (f n) ∙ ap (λ (t : Bool). t && eqb (f n) 0) (merged_zero n f)

-- the fault of the first test
pub first_fault : (f : ℕ → Bool) (t : Bool) → t ≡ f 0 → fault_of t ≡ merged 1 (λ i. fault_of (f i))
unfolding merged
first_fault f t e = ap fault_of e ∙ sym (or_zero_l (fault_of (f 0)))

-- no test has a fault
pub no_fault : (n : ℕ) (f : ℕ → Bool) → eqb (merged n (λ i. fault_of (f i))) 0 ≡ all n f
no_fault n f = merged_zero n (λ i. fault_of (f i)) ∙ all_same n _ _ (λ i l. one (f i))
  where
    one : (t : Bool) → eqb (fault_of t) 0 ≡ t
    one true = refl
    one false = refl

-- what holds of 2 k bytes holds of each pair of them
all_pairs : (k : ℕ) (t : ℕ → Bool) → all (2 * k) t ≡ all k (λ c. t (2 * c) && t (2 * c + 1))
all_pairs k t =
    same_test _ _
    (λ h. each_all k _ (λ c l. and_both (all_each (2 * k) t h (2 * c) (omega arith)) (all_each (2 * k) t h (2 * c + 1) (omega arith))))
    (λ h. each_all (2 * k) t (λ j l. pair h j l (way (eqb (j % 2) 0))))
  where
    at : all k (λ c. t (2 * c) && t (2 * c + 1)) ≡ true → (j : ℕ) → j < 2 * k → (t (2 * (j / 2)) && t (2 * (j / 2) + 1)) ≡ true
    at h j l = all_each k (λ c. t (2 * c) && t (2 * c + 1)) h (j / 2) (omega arith)

    pair : all k (λ c. t (2 * c) && t (2 * c + 1)) ≡ true → (j : ℕ) → j < 2 * k → (eqb (j % 2) 0 ≡ true) ⊎ (eqb (j % 2) 0 ≡ false) → t j ≡ true
    pair h j l (inl e) =
        let z : j % 2 ≡ 0 = eqb-true (j % 2) 0 e in
        let q : 2 * (j / 2) ≡ j = omega arith in
        subst (λ (i : ℕ). t i ≡ true) q (and_left _ _ (at h j l))
    pair h j l (inr e) =
        let z : j % 2 ≡ 0 → ⊥ = eqb-false (j % 2) 0 e in
        let q : 2 * (j / 2) + 1 ≡ j = omega arith in
        subst (λ (i : ℕ). t i ≡ true) q (and_right (t (2 * (j / 2))) _ (at h j l))

-- a lane is zero where both its bytes are, and a row of bytes where each of its lanes is
lane_zero : (b : List ℕ) (m : Matrix) (r j : ℕ) → (eqb (byte_at b m r (2 * j)) 0 && eqb (byte_at b m r (2 * j + 1)) 0) ≡ eqb (lane_at b m r j) 0
lane_zero b m r j = same_test _ _ forth back
  where
    forth : (eqb (byte_at b m r (2 * j)) 0 && eqb (byte_at b m r (2 * j + 1)) 0) ≡ true → eqb (lane_at b m r j) 0 ≡ true
    forth h =
        let p : byte_at b m r (2 * j) ≡ 0 = eqb-true _ 0 (and_left _ _ h) in
        let q : upper_at b m r j ≡ 0 = eqb-true _ 0 (and_right (eqb (byte_at b m r (2 * j)) 0) _ h) in
        eq-eqb (lane_at b m r j) 0 (omega (arith, upper_byte b m r j))

    back : eqb (lane_at b m r j) 0 ≡ true → (eqb (byte_at b m r (2 * j)) 0 && eqb (byte_at b m r (2 * j + 1)) 0) ≡ true
    back h = let e : lane_at b m r j ≡ 0 = eqb-true _ 0 h in and_both (eq-eqb (byte_at b m r (2 * j)) 0 (omega arith)) (eq-eqb (upper_at b m r j) 0 (omega (arith, upper_byte b m r j)))

pub row_zero : (b : List ℕ) (m : Matrix) (r : ℕ) → eqb (merged (row_bytes m) (λ j. byte_at b m r j)) 0 ≡ all m.lanes (λ j. eqb (lane_at b m r j) 0)
row_zero b m r =
    merged_zero (row_bytes m) (λ j. byte_at b m r j) ∙ all_pairs m.lanes (λ j. eqb (byte_at b m r j) 0) ∙ all_same m.lanes _ _ (λ j l. lane_zero b m r j)
