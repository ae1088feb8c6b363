-- Laws of a run of stores: what is stored is read, and every other place is as it was.
use Rattle.std.specs.Prelude.{ℕ, zero, suc, ◌+◌, ◌≤◌, ◌<◌, ◌≡◌, refl, List, [], ◌∷◌, length, get_or, set, drop}
use Rattle.std.proofs.Common.{not-suc-le-zero, add-zero, arith, sym, ◌∙◌, ap, length-set, length-drop, get_or-set_same, get_or-set_other, get_or-drop, ext_get_or}
use Rattle.std.proofs.lemmas.List.Edits.{sets}

-- another place than those from i on
pub get_or_sets_other : (vs l : List ℕ) (i j : ℕ) → (i ≤ j → j < i + length vs → ⊥) → get_or (sets l i vs) j 0 ≡ get_or l j 0
get_or_sets_other [] l i j h = refl
get_or_sets_other (v ∷ vs) l i j h =
    get_or_sets_other vs (set l i v) (suc i) j (λ p q. h (omega arith) (omega arith)) ∙ get_or-set_other l i j v 0 (λ e. h (omega arith) (omega arith))

pub get_or_sets_same : (vs l : List ℕ) (i k : ℕ) → i + length vs ≤ length l → k < length vs → get_or (sets l i vs) (i + k) 0 ≡ get_or vs k 0
get_or_sets_same [] l i k h b = absurd (not-suc-le-zero b)
get_or_sets_same (v ∷ vs) l i zero h b =
    ap (λ (j : ℕ). get_or (sets (set l i v) (suc i) vs) j 0) (add-zero i) ∙ get_or_sets_other vs (set l i v) (suc i) i (λ p q. omega arith)
    ∙ get_or-set_same l i v 0 (omega arith)
get_or_sets_same (v ∷ vs) l i (suc k) h b =
    let e : i + suc k ≡ suc i + k = omega arith in
    ap (λ (j : ℕ). get_or (sets (set l i v) (suc i) vs) j 0) e
    ∙ get_or_sets_same vs (set l i v) (suc i) k (let q : length (set l i v) ≡ length l = length-set l i v in omega arith) (omega arith)

-- six stores one after another
pub six_stores : (l : List ℕ) (p a b c d e f : ℕ)
    → set (set (set (set (set (set l p a) (p + 1) b) (p + 2) c) (p + 3) d) (p + 4) e) (p + 5) f ≡ sets l p (a ∷ b ∷ c ∷ d ∷ e ∷ f ∷ [])
six_stores l p a b c d e f =
    let q₁ : p + 1 ≡ suc p = omega arith in
    let q₂ : p + 2 ≡ suc (suc p) = omega arith in
    let q₃ : p + 3 ≡ suc (suc (suc p)) = omega arith in
    let q₄ : p + 4 ≡ suc (suc (suc (suc p))) = omega arith in
    let q₅ : p + 5 ≡ suc (suc (suc (suc (suc p)))) = omega arith in
    rw (q₁, q₂, q₃, q₄, q₅) refl

-- lists that agree from n on are equal from there on
pub drop_agree : (a b : List ℕ) (n : ℕ) → length a ≡ length b → ((i : ℕ) → n ≤ i → get_or a i 0 ≡ get_or b i 0) → drop n a ≡ drop n b
drop_agree a b n e h =
    ext_get_or 0 (drop n a) (drop n b) (simp length-drop (rw e refl)) (λ i l. get_or-drop n a i 0 ∙ h (n + i) (omega arith) ∙ sym (get_or-drop n b i 0))
