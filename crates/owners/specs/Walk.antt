-- The owner walk. In a valid state it is never lost, it meets exactly the subject that it starts at and those above, and it follows
-- fewer than `top` links: at most n - 1 on a record, where `top` is n.
use Prim.Native.Nat.{ℕ, zero, suc, ◌+◌, ◌≤◌, ◌<◌}
use Rattle.std.proofs.Common.{not-suc-le-zero, sym, ◌∙◌, inl, inr}
use Rattle.std.specs.Prelude.{◌≡◌, ◌⊎◌, Bool, true, false, eqb, ltb}
use Rattle.std.proofs.Math.Path.{refl, ap}
use Rattle.std.proofs.Math.Logic.{⊎_elim}
use borrow.Author.Tests.{ltb-true}
use Rattle.matrix.specs.declared.Name.{Name}
use Rattle.matrix.specs.declared.Name.TheVariants.{Subject}
use Rattle.matrix.specs.declared.Walked.{Walked}
use Rattle.matrix.specs.declared.Walked.TheVariants.{Meets, Root, Lost}
use Rattle.matrix.specs.Names.{U, same_name}
use Rattle.matrix.specs.State.{State}
use Rattle.matrix.specs.Owners.{Above, owner, higher, walk_from, walk, meets, links_of}
use Rattle.matrix.specs.Valid.{Valid}
use Rattle.laws.specs.Tests.{way, clash}
use Rattle.laws.specs.Same.{same_name_refl, same_name_eq}
use Rattle.laws.specs.Walks.{walk_met, walk_root, walk_up, walk_lost}
use Rattle.owners.specs.Framed.{owner_in, found_owns}

-- a walk in a state that may visit `left` more subjects
abbrev pub walk_in : State → ℕ → ℕ → Name → ℕ → Walked
walk_in S left s o links = walk_from S.top S.owns left s o links

-- subject s or one above it has the name o
abbrev pub AtOrAbove : State → ℕ → Name → Type 0
AtOrAbove S s o = (o ≡ Subject s) ⊎ ((v : ℕ) × (o ≡ Subject v) × Above S.owns (Subject s) v)

-- What a walk meets is what it starts at, or one above. This holds of every state.
found_from : (S : State) (left s : ℕ) (o : Name) (links : ℕ) → meets (walk_in S left s o links) ≡ true → AtOrAbove S s o
unfolding walk_from
found_from S zero s o links h = absurd (clash h refl)
found_from S (suc left) s o links h =
    ⊎_elim (λ m. inl (sym (same_name_eq (Subject s) o m)))
    (λ m. ⊎_elim (λ u. absurd (clash h (ap meets (walk_root S.top S.owns left s o links m u))))
    (λ u. ⊎_elim (λ l. inr (above l (found_from S left (owner_in S s) o (links + 1) (sym (ap meets (walk_up S.top S.owns left s o links m u l)) ∙ h))))
    (λ l. absurd (clash h (ap meets (walk_lost S.top S.owns left s o links m u l))))
    (way (ltb (owner_in S s) S.top)))
    (way (eqb s U)))
    (way (same_name (Subject s) o))
  where
    owns_it : ltb (owner_in S s) S.top ≡ true → S.owns (owner_in S s) (Subject s) ≡ true
    owns_it l = found_owns S s (ltb-true (owner_in S s) S.top l)

    above : ltb (owner_in S s) S.top ≡ true → AtOrAbove S (owner_in S s) o → (v : ℕ) × (o ≡ Subject v) × Above S.owns (Subject s) v
    above l (inl q) = (owner_in S s, q, owner (owns_it l))
    above l (inr w) = (w.0, w.1, higher (owns_it l) w.2)

-- What is met is the subject that it starts at or one above.
pub walk_found : (S : State) (s : ℕ) (o : Name) → meets (walk S s o) ≡ true →
    (o ≡ Subject s) ⊎ ((v : ℕ) × (o ≡ Subject v) × Above S.owns (Subject s) v)
walk_found S s o h = found_from S S.top s o 0 h

-- a walk that comes to an end within the links given
pub record Ends (walked : Walked) (most : ℕ) : Type 0 where
  pub ends : walked ≡ Lost → ⊥
  pub links : links_of walked ≤ most

abbrev pub lost : Walked → Bool
lost (Meets links) = false
lost (Root links) = false
lost Lost = true

pub ends_here : (walked : Walked) (most : ℕ) → lost walked ≡ false → links_of walked ≤ most → Ends walked most
ends_here walked most n l = record { ends = λ q. clash (ap lost q) n; links = l }

-- The subject that it starts at is met at once.
pub walk_self : (S : State) → Valid S → (s : ℕ) → walk S s (Subject s) ≡ Meets 0
walk_self S h s = at S.top (h.bound U h.root)
  where
    at : (left : ℕ) → U < left → walk_in S left s (Subject s) 0 ≡ Meets 0
    at zero l = absurd (not-suc-le-zero l)
    at (suc left) l = walk_met S.top S.owns left s (Subject s) 0 (same_name_refl (Subject s))
