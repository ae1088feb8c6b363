-- The search over states: it ends at the first number of commands after which the right is held, or there is none.
use Prim.Native.Nat.{ℕ, zero, suc, ◌+◌, ◌≤◌, ◌<◌}
use Rattle.std.proofs.Common.{add-zero, sym, ◌∙◌, ⊎_elim}
use native.Mathlib.Omega.{arith}
use Rattle.std.specs.Prelude.{◌≡◌, refl, ◌⊎◌, true, false, eqb, length, take}
use Rattle.std.proofs.Math.Logic.{inl, inr}
use mathlib.Core.List.{List, [], ◌∷◌}
use borrow.Author.Tests.{eqb-true, eqb-false}
use Rattle.matrix.specs.declared.Fields.{Fields}
use Rattle.matrix.specs.declared.Name.{Name}
use Rattle.matrix.specs.declared.Right.{Right}
use Rattle.matrix.specs.declared.Shape.{Shape}
use Rattle.matrix.specs.State.{State, held}
use Rattle.matrix.specs.Calls.{refusal_on, next_on, run_from}
use Rattle.matrix.specs.FirstHeld.{first_from}
use Rattle.laws.specs.Tests.{way, clash}

module _ (f : Shape) (x : Right) (s : ℕ) (o : Name) where
  -- the first m of the commands are accepted in turn, and the right is held after them
  pub record HeldAt (j : ℕ) (S : State) (cs : List Fields) (m : ℕ) : Type 0 where
    pub within : m ≤ length cs
    pub accepted : (run_from j f S (take m cs)).refusal ≡ 0
    pub held : held (run_from j f S (take m cs)).state x s o ≡ true

  -- what the search comes to, j commands before it
  pub record Found (j : ℕ) (S : State) (cs : List Fields) (m : ℕ) : Type 0 where
    pub value : first_from j f S cs x s o ≡ j + m + 1
    pub at : HeldAt j S cs m
    pub least : (i : ℕ) → i < m → HeldAt j S cs i → ⊥

  pub record Never (j : ℕ) (S : State) (cs : List Fields) : Type 0 where
    pub value : first_from j f S cs x s o ≡ 0
    pub none : (i : ℕ) → HeldAt j S cs i → ⊥

  -- held at once
  at_once : (j : ℕ) (S : State) (cs : List Fields) → held S x s o ≡ true → HeldAt j S cs 0
  unfolding run_from
  at_once j S cs h = record { within = omega arith; accepted = refl; held = h }

  not_at_once : (j : ℕ) (S : State) (cs : List Fields) → held S x s o ≡ false → HeldAt j S cs 0 → ⊥
  unfolding run_from
  not_at_once j S cs h a = clash a.held h

  module _ (j : ℕ) (S : State) (c : Fields) (cs : List Fields) where
    -- after a command that is accepted
    module _ (e : refusal_on f S c ≡ 0) where
      one_more : (m : ℕ) → HeldAt (j + 1) (next_on f S c) cs m → HeldAt j S (c ∷ cs) (suc m)
      unfolding run_from
      one_more m a = record { within = omega (arith, a.within); accepted = rw e a.accepted; held = rw e a.held }

      one_less : (m : ℕ) → HeldAt j S (c ∷ cs) (suc m) → HeldAt (j + 1) (next_on f S c) cs m
      unfolding run_from
      one_less m a = record { within = omega (arith, a.within); accepted = rw e at a.accepted; held = rw e at a.held }

    -- after one that is refused there is nothing
    nothing_after : eqb (refusal_on f S c) 0 ≡ false → (m : ℕ) → HeldAt j S (c ∷ cs) (suc m) → ⊥
    unfolding run_from
    nothing_after e m a = let z : refusal_on f S c ≡ 0 = rw e at a.accepted in eqb-false (refusal_on f S c) 0 e z

  -- a number of commands is none, or one more
  by_number : (j : ℕ) (S : State) (cs : List Fields) → (HeldAt j S cs 0 → ⊥) → ((i : ℕ) → HeldAt j S cs (suc i) → ⊥) → (i : ℕ) → HeldAt j S cs i → ⊥
  by_number j S cs none more zero a = none a
  by_number j S cs none more (suc i) a = more i a

  searched_more : (j : ℕ) (S : State) (c : Fields) (cs : List Fields) → held S x s o ≡ false → refusal_on f S c ≡ 0
      → ((m : ℕ) × Found (j + 1) (next_on f S c) cs m) ⊎ Never (j + 1) (next_on f S c) cs → ((m : ℕ) × Found j S (c ∷ cs) m) ⊎ Never j S (c ∷ cs)
  unfolding first_from
  searched_more j S c cs h e (inl (m, w)) =
      inl (
        suc m,
        record {
          value = rw (h, e) (w.value ∙ omega arith);
          at = one_more j S c cs e m w.at;
          least = λ i l a. least i l a;
        },
      )
    where
      least : (i : ℕ) → i < suc m → HeldAt j S (c ∷ cs) i → ⊥
      least zero l a = not_at_once j S (c ∷ cs) h a
      least (suc i) l a = w.least i (omega arith) (one_less j S c cs e i a)
  searched_more j S c cs h e (inr w) =
      inr (record { value = rw (h, e) w.value; none = by_number j S (c ∷ cs) (not_at_once j S (c ∷ cs) h) (λ i a. w.none i (one_less j S c cs e i a)) })

  found_at_once : (j : ℕ) (S : State) (cs : List Fields) → held S x s o ≡ true → Found j S cs 0
  unfolding first_from
  found_at_once j S [] h = record { value = rw h (omega arith); at = at_once j S [] h; least = λ i l a. omega arith }
  found_at_once j S (c ∷ cs) h = record { value = rw h (omega arith); at = at_once j S (c ∷ cs) h; least = λ i l a. omega arith }

  never_any : (j : ℕ) (S : State) → held S x s o ≡ false → Never j S []
  unfolding first_from
  never_any j S h = record { value = rw h refl; none = by_number j S [] (not_at_once j S [] h) (λ i a. omega (arith, a.within)) }

  never_after : (j : ℕ) (S : State) (c : Fields) (cs : List Fields) → held S x s o ≡ false → eqb (refusal_on f S c) 0 ≡ false → Never j S (c ∷ cs)
  unfolding first_from
  never_after j S c cs h e = record { value = rw (h, e) refl; none = by_number j S (c ∷ cs) (not_at_once j S (c ∷ cs) h) (nothing_after j S c cs e) }

  pub searched : (j : ℕ) (S : State) (cs : List Fields) → ((m : ℕ) × Found j S cs m) ⊎ Never j S cs
  searched j S [] = ⊎_elim (λ h. inl (0, found_at_once j S [] h)) (λ h. inr (never_any j S h)) (way (held S x s o))
  searched j S (c ∷ cs) =
      ⊎_elim (λ h. inl (0, found_at_once j S (c ∷ cs) h))
      (λ h. ⊎_elim (λ e. let z = eqb-true (refusal_on f S c) 0 e in searched_more j S c cs h z (searched (j + 1) (next_on f S c) cs))
      (λ e. inr (never_after j S c cs h e)) (way (eqb (refusal_on f S c) 0))) (way (held S x s o))

-- a run without a refusal accepted every command
pub all_accepted : (j : ℕ) (f : Shape) (S : State) (cs : List Fields) → (run_from j f S cs).refusal ≡ 0 → (run_from j f S cs).accepted ≡ j + length cs
unfolding run_from
all_accepted j f S [] h = sym (add-zero j)
all_accepted j f S (c ∷ cs) h =
    ⊎_elim
    (λ (e : eqb (refusal_on f S c) 0 ≡ true).
    let g : (run_from (j + 1) f (next_on f S c) cs).refusal ≡ 0 = rw e at h in rw e (all_accepted (j + 1) f (next_on f S c) cs g ∙ omega arith))
    (λ (e : eqb (refusal_on f S c) 0 ≡ false). let z : refusal_on f S c ≡ 0 = rw e at h in absurd (eqb-false (refusal_on f S c) 0 e z)) (way (eqb (refusal_on f S c) 0))
