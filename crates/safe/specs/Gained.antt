-- Where a newly set bit comes from: what an accepted command may set.
use Rattle.std.specs.Prelude.{ℕ, ◌≡◌, refl, ◌⊎◌, true, false}
use Rattle.std.proofs.Common.{sym, ◌∙◌, subst, inl, inr, ⊎_elim}
use Rattle.std.proofs.lemmas.Bool.{false≢true, not-true}
use Rattle.matrix.specs.declared.Name.{Name}
use Rattle.matrix.specs.declared.Name.TheVariants.{Subject}
use Rattle.matrix.specs.declared.Right.{Right}
use Rattle.matrix.specs.declared.Right.TheVariants.{Own, Control, Basic}
use Rattle.matrix.specs.declared.Act.{Act}
use Rattle.matrix.specs.declared.Act.TheVariants.{Transfer, Grant, Delete, CreateObject, DestroyObject, CreateSubject, DestroySubject}
use Rattle.matrix.specs.declared.Command.{Command}
use Rattle.matrix.specs.State.{State, has, exists_name, put}
use Rattle.matrix.specs.Changes.{change, admit, inherit, in_column, in_cross}
use Rattle.matrix.specs.Touched.{is_bit}
use Rattle.laws.specs.Tests.{cond_cases}
use Rattle.laws.specs.Changed.{has_put, put_bit, clear_bit, inherit_bit, has_admit}
use Rattle.kept.specs.Allowed.{Allowed}
use Rattle.safe.specs.Conditions.{has_star}

-- What lets a command set the bit of right z over x: its initiator owns x; it has the star of z over x; x is absent, and is
-- created; or the initiator destroys an owner of x, which it owns.
pub data Source (S : State) (c : Command) (a : Act) (z : Right) (x : Name) : Type 0 where
  by_owner : S.owns c.i x ≡ true → Source S c a z x
  by_star : has_star S z c.i x ≡ true → Source S c a z x
  by_creation : exists_name S x ≡ false → Source S c a z x
  by_heir : a ≡ DestroySubject → S.owns c.i (Subject c.s) ≡ true → S.owns c.s x ≡ true → Source S c a z x

-- a bit that is set after one bit was cleared was set before
cleared_bit : (y : Right) (r : ℕ) (c : Name) (S : State) (z : Right) (w : ℕ) (x : Name) → has (put y r c false S) z w x ≡ true → has S z w x ≡ true
cleared_bit y r c S z w x h =
    ⊎_elim (λ p. absurd (false≢true p.1)) (λ p. p.1)
    (cond_cases (is_bit y r c z w x) false (has S z w x) (sym (has_put y r c false S z w x) ∙ h))

-- A bit that is set after an accepted command was set before, or has such a source.
pub gained : (S : State) (c : Command) (a : Act) → Allowed S c a → (z : Right) (w : ℕ) (x : Name) → has (change S c a) z w x ≡ true
    → (has S z w x ≡ true) ⊎ Source S c a z x
gained S c (Transfer Own) p z w x h =
    ⊎_elim (λ b. inl (cleared_bit Own c.i c.o S z w x b))
    (λ q. inr (by_owner (subst (λ (n : Name). S.owns c.i n ≡ true) (sym q.2) p.entitled)))
    (put_bit Own c.s c.o true (put Own c.i c.o false S) z w x h)
gained S c (Transfer Control) p z w x h = inl h
gained S c (Transfer (Basic k f)) p z w x h =
    ⊎_elim (λ b. inl b) (λ q. inr (by_star (star q.0 q.2))) (put_bit (Basic k f) c.s c.o true S z w x h)
  where
    star : z ≡ Basic k f → x ≡ c.o → has_star S z c.i x ≡ true
    star e q = rw (e, q) p.entitled
gained S c (Grant y) p z w x h =
    ⊎_elim (λ b. inl b) (λ q. inr (by_owner (subst (λ (n : Name). S.owns c.i n ≡ true) (sym q.2) p.entitled)))
    (put_bit y c.s c.o true S z w x h)
gained S c (Delete y) p z w x h = inl (cleared_bit y c.s c.o S z w x h)
gained S c CreateObject p z w x h =
    ⊎_elim (λ b. inl b) (λ q. inr (by_creation (subst (λ (n : Name). exists_name S n ≡ false) (sym q.2) (not-true _ p.absent))))
    (put_bit Own c.i c.o true S z w x h)
gained S c DestroyObject p z w x h = inl (clear_bit (in_column c.o) S z w x h).1
gained S c CreateSubject p z w x h =
    ⊎_elim (λ b. ⊎_elim (λ old. inl (sym (has_admit c.s S z w x) ∙ old)) (λ q. inr (created q.2))
    (put_bit Own c.i (Subject c.s) true (admit c.s S) z w x b)) (λ q. inr (created q.2))
    (put_bit Control c.s (Subject c.s) true (put Own c.i (Subject c.s) true (admit c.s S)) z w x h)
  where
    created : x ≡ Subject c.s → Source S c CreateSubject z x
    created e = by_creation (subst (λ (n : Name). exists_name S n ≡ false) (sym e) (not-true _ p.absent))
gained S c DestroySubject p z w x h =
    ⊎_elim (λ b. inl b) (λ q. inr (by_heir refl p.entitled q.2))
    (inherit_bit c.i c.s S z w x (clear_bit (in_cross c.s) (inherit c.i c.s S) z w x h).1)
