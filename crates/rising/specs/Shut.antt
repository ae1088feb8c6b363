-- Subjects from which the way up meets no untrusted one, however many subjects it may visit; sets of them; and the way up that goes no
-- further where it comes to one. A way up may also end because it may visit no more subjects, as on a cycle of owners: that shuts nothing.
use Rattle.std.specs.Prelude.{ℕ, zero, suc, ◌≤◌, ◌<◌, ◌≡◌, refl, ◌⊎◌, Bool, true, List, ◌∷◌, Option, Some, None}
use Rattle.std.proofs.Common.{arith, sym, ◌∙◌, subst, ⊎_elim, eqb-true, eq-eqb, ne_eqb, lt-ltb, le-ltb}
use Rattle.matrix.specs.Bytes.{bit}
use Rattle.matrix.specs.Names.{U}
use Rattle.matrix.specs.State.{State}
use Rattle.matrix.specs.Owners.{owner_of}
use Rattle.laws.specs.Tests.{clash, or_cases}
use Rattle.codec.specs.Bits.{bit_zero}
use Rattle.row_search.specs.SomeBelow.{some_below, some_was, none_was}
use Rattle.masks.specs.Marks.{Added}
use Rattle.route.specs.Rise.{none, rise}
use Rattle.chain.specs.Rising.{rise_in, rise_root, rise_up, rise_lost}

pub record Shut (S : State) (trusted : ℕ → Bool) (v : ℕ) : Type 0 where
  pub never : (left : ℕ) (passed : List ℕ) → rise_in S trusted left v passed ≡ none

-- every member of a set is shut
pub record ShutAll (S : State) (trusted : ℕ → Bool) (set : ℕ) : Type 0 where
  pub each : (v : ℕ) → bit v set ≡ true → Shut S trusted v

pub shut_none : (S : State) (trusted : ℕ → Bool) → ShutAll S trusted 0
shut_none S trusted = record { each = λ v h. absurd (clash h (bit_zero v)) }

-- ---- one subject

-- where the way up may visit a subject at all, it ends there
shut_by : {S : State} {trusted : ℕ → Bool} {v : ℕ} → ((left : ℕ) (passed : List ℕ) → rise_in S trusted (suc left) v passed ≡ none) → Shut S trusted v
unfolding rise
shut_by {S} {trusted} {v} h = record { never = by }
  where
    by : (left : ℕ) (passed : List ℕ) → rise_in S trusted left v passed ≡ none
    by zero passed = refl
    by (suc left) passed = h left passed

-- a trusted subject is shut that is U, that has no owner, or whose owner is shut
module _ (S : State) {trusted : ℕ → Bool} {v : ℕ} (t : trusted v ≡ true) where
  shut_root : v ≡ U → Shut S trusted v
  shut_root u = shut_by (λ left passed. rise_root S.top S.owns trusted left v passed t (eq-eqb v U u))

  module _ (u : v ≡ U → ⊥) where
    shut_lost : S.top ≤ owner_of S.top S.owns v → Shut S trusted v
    shut_lost l =
        shut_by (λ left passed. rise_lost S.top S.owns trusted left v passed t (ne_eqb v U u) (le-ltb (owner_of S.top S.owns v) S.top l))

    shut_up : owner_of S.top S.owns v < S.top → Shut S trusted (owner_of S.top S.owns v) → Shut S trusted v
    shut_up l h =
        shut_by (λ left passed.
        rise_up S.top S.owns trusted left v passed t (ne_eqb v U u) (lt-ltb (owner_of S.top S.owns v) S.top l) ∙ h.never left (v ∷ passed))

-- ---- one step up

-- Where the way up from subject v goes on, it is to the owner of v. Where it ends at v, v is shut if it is trusted and the members of `closed`
-- are shut.
pub record Next (S : State) (closed v : ℕ) (r : Option ℕ) : Type 0 where
  pub up : (u : ℕ) → r ≡ Some u → (v ≡ U → ⊥) × (u ≡ owner_of S.top S.owns v) × (u < S.top)
  pub ends : r ≡ None → (trusted : ℕ → Bool) → trusted v ≡ true → ShutAll S trusted closed → Shut S trusted v

-- v is U, or is known to be shut
pub next_none : (S : State) (closed v : ℕ) → (v ≡ U) ⊎ (bit v closed ≡ true) → Next S closed v None
next_none S closed v h = record { up = λ u e. cc; ends = λ e trusted t k. ⊎_elim (λ u. shut_root S t u) (λ c. k.each v c) h }

-- r is what the search for the owner of v found
pub next_owner : (S : State) (closed v : ℕ) {r : Option ℕ} {n : ℕ} → (v ≡ U → ⊥) → r ≡ some_below n (owner_of S.top S.owns v) → S.top ≡ n → Next S closed v r
next_owner S closed v root e top =
    record {
      up = λ u h. let w = some_was (sym h ∙ e) in (root, w.1, omega (arith, top, w.0));
      ends = λ h trusted t k. shut_lost S t root (omega (arith, top, none_was (sym h ∙ e)));
    }

-- ---- the subjects passed

-- The members of `seen` are shut if subject `at` is, to which the way up has come.
pub record Seen (S : State) (trusted : ℕ → Bool) (at seen : ℕ) : Type 0 where
  pub shuts : Shut S trusted at → ShutAll S trusted seen

pub seen_none : {S : State} {trusted : ℕ → Bool} (at : ℕ) {closed : ℕ} → ShutAll S trusted closed → Seen S trusted at closed
seen_none at h = record { shuts = λ s. h }

-- the way up goes on to r
pub seen_up : {S : State} {trusted : ℕ → Bool} {closed at seen r more : ℕ} → Seen S trusted at seen → trusted at ≡ true → Next S closed at (Some r)
    → Added seen at more → Seen S trusted r more
seen_up {S} {trusted} {at = at} {r = r} h t next g =
    record {
      shuts =
          λ s. let q = next.up r refl in
          let e : r ≡ owner_of S.top S.owns at = q.1 in
          let k : Shut S trusted at = shut_up S t q.0 (omega (arith, q.2)) (subst (Shut S trusted) e s) in
          record {
            each =
                λ v m. ⊎_elim (λ b. (h.shuts k).each v b) (λ q. subst (Shut S trusted) (sym (eqb-true v at q)) k)
                (or_cases _ _ (sym (g.marks v) ∙ m));
          };
    }
